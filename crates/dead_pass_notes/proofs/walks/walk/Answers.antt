use Rattle.std.proofs.Common.{◌<◌, length, map, sym, ap, ◌∙◌, arith}
use Rattle.std.specs.Prelude.{◌==◌, not}
use Rattle.std.proofs.lemmas.List.{length-map}
use Rattle.graph_core.specs.Graphs.{instruction_view}
use Rattle.dead_pass_rule.specs.Asking.{is_going}
use Rattle.dead_pass_rule.specs.Walks.{turn_of}
use Rattle.graph_paths.specs.PathMarksTable.{bits_of}
use Rattle.dead_pass_notes.proofs.BlockRows.{walk_done, walk_more}
use Rattle.dead_pass_notes.proofs.walks.walk.Goals as goal

pub loop-index-preserved : goal.loop-index-preserved
loop-index-preserved c =
    let xs = c.args.instructions.now in
    let k = c.loop-index.index in
    let i = c.index-instructions-index.result in
    let test = c.loop-index-test.true in
    let inside : k < length xs = omega (arith, test) in
    record {
      same_count = c.step_in.ensures.same_count ∙ c.loop-index.invariant.same_count;
      same_width = c.step_in.ensures.same_width ∙ c.loop-index.invariant.same_width;
      others = λ other bit ne. c.step_in.ensures.others other bit ne ∙ c.loop-index.invariant.others other bit ne;
      walk = λ x named. c.step_in.ensures.walk x named
          ∙ walk_more instruction_view xs k i i x (is_going (turn_of c.args.turns.now) c.args.number) (bits_of c.args.marks.now c.args.row x) _ (bits_of c.loop-index.marks c.args.row x) _ inside c.index-instructions-index.is c.target.ensures
          (ap (λ t. not (t == 0)) c.turn_at-goes.ensures) (c.loop-index.invariant.walk x named);
    }

pub returns-clause-walk : goal.returns-clause-walk
returns-clause-walk c = λ x named.
    (let xs = c.args.instructions.now in
    let long = length-map xs instruction_view in
    let test = c.loop-index-test.false in
    walk_done (map instruction_view xs) (length xs) c.loop-index.index x (is_going (turn_of c.args.turns.now) c.args.number) (bits_of c.args.marks.now c.args.row x) (bits_of c.loop-index.marks c.args.row x) (sym long) (omega (arith, test))
    (c.loop-index.invariant.walk x named))
