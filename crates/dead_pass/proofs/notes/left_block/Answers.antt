use Rattle.std.proofs.Common.{◌∙◌, [], ap, map, refl, subst, sym}
use Rattle.graph_core.specs.Graphs.{Block, block_view, instruction_view}
use Rattle.graph_paths.specs.PathMarksTable.{bits_of}
use Rattle.dead_pass_rule.specs.Asking.{is_going}
use Rattle.dead_pass_rule.specs.Walks.{turn_of}
use Rattle.dead_pass_notes.specs.Idle.{assignments_of, graph_of}
use Rattle.dead_pass_notes.specs.Said.{AreSaid}
use Rattle.dead_pass.specs.LeftBy.{AreLeftBy, IsLeftBlockBy, reduced, unreached}
use Rattle.dead_pass.proofs.Saying.{unreached_said}
use Rattle.dead_pass.proofs.notes.left_block.Goals as goal

pub returns-then-not-is_reached-clause-left : goal.returns-then-not-is_reached-clause-left
returns-then-not-is_reached-clause-left c =
    subst (λ (b : Block). IsLeftBlockBy (is_going (turn_of c.args.idle.now.turns.items)) (bits_of c.args.idle.now.reached 0) c.args.number (block_view c.args.block.now) b) (sym c.in_ok-same.ensures) (unreached (sym c.is_reached.ensures ∙ c.if-not-is_reached.true))

pub returns-then-not-is_reached-clause-said : goal.returns-then-not-is_reached-clause-said
returns-then-not-is_reached-clause-said c = λ log ready is.
    (let idle = c.args.idle.now in
    let b = block_view c.args.block.now in
    subst (λ (d : Block). AreSaid (assignments_of idle) log (graph_of idle) c.args.number b.end b.instructions d.instructions) (sym c.in_ok-same.ensures)
    (unreached_said log idle ready.borne_out c.args.number b is (sym c.is_reached.ensures ∙ c.if-not-is_reached.true) [] b.instructions refl))

pub returns-clause-left : goal.returns-clause-left
returns-clause-left c =
    reduced (sym c.is_reached.ensures ∙ c.if-not-is_reached.false)
    (subst (λ xs. AreLeftBy (is_going (turn_of c.args.idle.now.turns.items) c.args.number) (map instruction_view xs) (map instruction_view c.in_ok-left_of.field-0.items)) c.deref.ensures.value c.in_ok-left_of.ensures.left)

pub returns-clause-said : goal.returns-clause-said
returns-clause-said c = λ log ready is.
    c.in_ok-left_of.ensures.said log (block_view c.args.block.now) ready (record { is = is; reached = sym c.is_reached.ensures ∙ c.if-not-is_reached.false }) refl (ap (λ xs. map instruction_view xs) (sym c.deref.ensures.value))
