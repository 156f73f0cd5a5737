use Rattle.std.proofs.Common.{◌∙◌}
use Rattle.std.proofs.lemmas.List.{map_push}
use Rattle.line_form.proofs.Pieces.{one_line_more, no_line_more}
use Rattle.line_form.proofs.output.out_lines.Goals as goal

pub loop-piece-preserved : goal.loop-piece-preserved
loop-piece-preserved c =
    let steps = c.in-Some.ensures.steps in
    let size = c.loop-piece.invariant.size in
    let full = rw size at steps.1.1 in
    record {
      left = one_line_more _ _ _ _ _ _ steps.1.0 full steps.1.2 (simp (c.in_ok-push.ensures.items, c.in_ok-out_line.ensures, map_push)) c.loop-piece.invariant.left;
      size = steps.0 ∙ size;
    }

pub returns : goal.returns
returns c = no_line_more _ _ _ c.in-None.ensures.steps.1.0 c.loop-piece.invariant.left
