use Rattle.std.proofs.Common.{◌≡◌, ◌<◌, ℕ, Some, length}
use Rattle.std.specs.Prelude.{slice_get}
use Rattle.graph_core.specs.Graphs.{Block}
use Rattle.motion_pass_placement.specs.Columns.{AreRowFates, blocks_in, fates_of}
use Rattle.motion_pass_placement.proofs.columns.Placing.fates.Given as goal

abbrev pub invariant-loop-number : goal.invariant-loop-number
invariant-loop-number l = record {
  count : length l.fates.items ≡ l.number;
  each : (n : ℕ) → n < l.number → AreRowFates l.self n (fates_of l.fates.items n);
  size : (n : ℕ) → n < l.number → (b : Block) → slice_get (blocks_in l.self) n ≡ Some b → length (fates_of l.fates.items n) ≡ length b.instructions;
}
