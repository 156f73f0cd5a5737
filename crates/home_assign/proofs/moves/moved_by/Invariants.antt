use Rattle.std.proofs.Common.{◌≡◌, ℕ, ◌||◌, length, map}
use Rattle.std.specs.List.{list_any}
use Rattle.graph_core.specs.Graphs.{logged}
use Rattle.home_assign.specs.Moves.{moves_from}
use Rattle.home_assign.specs.Pairs.{has}
use Rattle.home_assign.proofs.moves.moved_by.Given as goal

abbrev pub invariant-loop-left : goal.invariant-loop-left
invariant-loop-left l = (v p : ℕ) → (has l.pairs v p || list_any (moves_from v p) (map logged l.left)) ≡ list_any (moves_from v p) (map logged l.changes)

abbrev pub decreases-loop-left : goal.decreases-loop-left
decreases-loop-left l = length l.left
