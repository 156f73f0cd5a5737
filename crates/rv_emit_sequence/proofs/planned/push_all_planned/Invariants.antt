use Rattle.std.proofs.Common.{length}
use Rattle.graph_core.specs.Graphs.{graph_view}
use Rattle.rv_emit_plan.specs.Plans.{held_at, HoldsWell}
use Rattle.rv_emit_sequence.specs.Sequences.{ground_of, sequence_view, ArePut, SequenceForm}
use Rattle.rv_emit_sequence.proofs.planned.push_all_planned.Given as goal

abbrev pub invariant-loop-left : goal.invariant-loop-left
invariant-loop-left l =
    HoldsWell l.plan → (t : SequenceForm) → ArePut (ground_of l.storage) (graph_view l.graph).blocks (held_at l.plan) l.left (sequence_view l.sequence) t
    → ArePut (ground_of l.storage) (graph_view l.graph).blocks (held_at l.plan) l.plan.order.items (sequence_view l.fn.sequence) t

abbrev pub decreases-loop-left : goal.decreases-loop-left
decreases-loop-left l = length l.left
