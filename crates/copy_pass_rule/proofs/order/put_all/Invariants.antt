use Rattle.std.proofs.Common.{◌+◌, ◌-◌, length, map}
use Rattle.graph_core.specs.Graphs.{block_view}
use Rattle.copy_pass_rule.proofs.Ordering.{AreOrdered, IsClosedTo, left_out}
use Rattle.copy_pass_rule.proofs.order.put_all.Given as goal

abbrev pub invariant-loop-turn : goal.invariant-loop-turn
invariant-loop-turn l = record {
  are : AreOrdered (map block_view l.fn.blocks) l.order.items l.has;
  closed : IsClosedTo (map block_view l.fn.blocks) l.turn l.order.items l.has;
}

abbrev pub decreases-loop-turn : goal.decreases-loop-turn
decreases-loop-turn l = left_out l.has + (length l.order.items - l.turn)
