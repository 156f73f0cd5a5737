use Rattle.std.proofs.Common.{◌≡◌, ℕ, ◌<◌}
use Rattle.graph_paths.specs.Flood.{AreTables, AreSameFrom}
use Rattle.graph_paths.specs.PathMarksTable.{bits_of}
use Rattle.graph_paths.proofs.flood.make_all.Given as goal

abbrev pub invariant-loop-number : goal.invariant-loop-number
invariant-loop-number g l = record {
  tables : AreTables (g.T.Transfer.course l.transfer) l.comes l.leaves;
  same_count : l.leaves.count ≡ l.fn.leaves.count;
  same_width : l.leaves.width ≡ l.fn.leaves.width;
  spare : AreSameFrom l.count (bits_of l.fn.leaves) (bits_of l.leaves);
  made :
      (n fact : ℕ) → n < l.number → fact < (g.T.Transfer.course l.transfer).width
      → bits_of l.leaves n fact ≡ (g.T.Transfer.course l.transfer).does n fact (bits_of l.comes n fact);
}
