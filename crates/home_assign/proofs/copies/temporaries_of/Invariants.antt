use Rattle.std.proofs.Common.{length, map}
use Rattle.graph_core.specs.Graphs.{block_view, scalar_view}
use Rattle.graph_homes.specs.Reused.{first_copy}
use Rattle.home_assign.specs.Copies.{AreSoFar}
use Rattle.home_assign.specs.Moves.{is_moved_at}
use Rattle.home_assign.proofs.copies.temporaries_of.Given as goal

abbrev pub invariant-loop-left : goal.invariant-loop-left
invariant-loop-left l = AreSoFar (is_moved_at (map scalar_view l.graph.scalars.items) l.moves) (length l.graph.scalars.items) (λ p x. first_copy p x (map block_view l.left)) (λ p x. first_copy p x (map block_view l.graph.blocks.items)) l.copies

abbrev pub decreases-loop-left : goal.decreases-loop-left
decreases-loop-left l = length l.left
