use Rattle.std.proofs.Common.{◌≡◌, None, length, map, replicate}
use Rattle.graph_core.specs.Graphs.{block_view}
use Rattle.home_assign.specs.Joining.{with_blocks}
use Rattle.home_assign.proofs.joins.first_joined.Given as goal

abbrev pub invariant-loop-left : goal.invariant-loop-left
invariant-loop-left l = with_blocks (map block_view l.left) l.first.items ≡ with_blocks (map block_view l.graph.blocks.items) (replicate l.graph.name_count None)

abbrev pub decreases-loop-left : goal.decreases-loop-left
decreases-loop-left l = length l.left
