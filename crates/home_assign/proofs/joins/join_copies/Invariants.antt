use Rattle.std.proofs.Common.{◌≡◌, length, map}
use Rattle.graph_core.specs.Graphs.{instruction_view}
use Rattle.home_assign.specs.Joining.{with_copies}
use Rattle.home_assign.proofs.joins.join_copies.Given as goal

abbrev pub invariant-loop-left : goal.invariant-loop-left
invariant-loop-left l = with_copies (map instruction_view l.left) l.first ≡ with_copies (map instruction_view l.instructions) l.fn.first

abbrev pub decreases-loop-left : goal.decreases-loop-left
decreases-loop-left l = length l.left
