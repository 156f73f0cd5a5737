use Rattle.std.proofs.Common.{◌≡◌, Some, false, true≢false, map, refl, sym, ap, ◌∙◌, arith, length}
use Rattle.std.specs.Prelude.{option_map, slice_get, slice_index_or}
use Rattle.std.proofs.lemmas.List.{length-map}
use Rattle.std.proofs.lemmas.Option.{slice_get-map, slice_get_read, slice_get_within}
use Rattle.graph_core.specs.Graphs.{block_view}
use Rattle.motion_pass_problems.proofs.Returning.{back_on}
use Rattle.motion_pass_problems.proofs.reach.comes_back.Goals as goal
use Rattle.motion_pass_problems.proofs.reach.comes_back.Goals.{then-is_flagged+else-back, else-is_flagged}

pub loop-number-preserved : goal.loop-number-preserved
loop-number-preserved c =
    let xs = c.args.blocks.now in
    let number = c.loop-number.number in
    let there : slice_get (map block_view xs) number ≡ Some (block_view c.index-blocks-number.result)
    = slice_get-map block_view xs number ∙ ap (option_map block_view) (slice_get_read xs (length xs) number c.index-blocks-number.result refl c.loop-number-test.true c.index-blocks-number.is) in
    back_on (map block_view xs) (λ n. slice_index_or c.args.reached.now n false) number (block_view c.index-blocks-number.result) there
    (elim c.if-is_flagged.branch [
      | then-is_flagged+else-back w ↦ λ comes among. w.leads_to_first-back.ensures.never w.if-back.false among
      | else-is_flagged w ↦ λ comes among. true≢false (sym comes ∙ sym c.is_flagged.ensures ∙ w.if-is_flagged.false)
    ]) c.loop-number.invariant

pub returns-clause-never : goal.returns-clause-never
returns-clause-never c = λ quiet m edge. c.loop-number.invariant m (omega (arith, c.loop-number-test.false, slice_get_within (map block_view c.args.blocks.now) m edge.block edge.is, length-map c.args.blocks.now block_view)) edge

pub returns-then-back-clause-comes : goal.returns-then-back-clause-comes
returns-then-back-clause-comes c = λ so.
    (let xs = c.args.blocks.now in
    let number = c.loop-number.number in
    let there : slice_get (map block_view xs) number ≡ Some (block_view c.index-blocks-number.result)
    = slice_get-map block_view xs number ∙ ap (option_map block_view) (slice_get_read xs (length xs) number c.index-blocks-number.result refl c.loop-number-test.true c.index-blocks-number.is) in (
      number,
      record { block = block_view c.index-blocks-number.result; is = there; comes = sym c.is_flagged.ensures ∙ c.if-is_flagged.true; leads = c.leads_to_first-back.ensures.leads c.if-back.true },
    ))
