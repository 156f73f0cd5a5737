use Rattle.std.proofs.Common.{◌≡◌, ℕ, ◌+◌, ◌-◌, ◌*◌, ◌<◌, if◌then◌else◌, false, length}
use Rattle.graph_paths.specs.Flood.{AreBrought, AreTables, AreSameFrom, IsClosedAt}
use Rattle.graph_paths.specs.PathMarksTable.{bits_of, told}
use Rattle.graph_paths.proofs.flood.settle.Given as goal

abbrev pub invariant-loop-is_new : goal.invariant-loop-is_new
invariant-loop-is_new g l = record {
  tables : AreTables (g.T.Transfer.course l.transfer) l.comes l.leaves;
  brought : AreBrought (g.T.Transfer.course l.transfer) (bits_of l.fn.comes) (bits_of l.comes) (bits_of l.leaves);
  closed : l.is_new ≡ false → (n : ℕ) → n < length l.blocks → IsClosedAt (g.T.Transfer.course l.transfer) n (bits_of l.comes) (bits_of l.leaves);
  comes_count : l.comes.count ≡ l.fn.comes.count;
  leaves_count : l.leaves.count ≡ l.fn.leaves.count;
  spare_comes : AreSameFrom (length l.blocks) (bits_of l.fn.comes) (bits_of l.comes);
  spare_leaves : AreSameFrom (length l.blocks) (bits_of l.fn.leaves) (bits_of l.leaves);
}

abbrev pub decreases-loop-is_new : goal.decreases-loop-is_new
decreases-loop-is_new g l = l.comes.count * l.comes.width - told l.comes + (if l.is_new then 1 else 0)
