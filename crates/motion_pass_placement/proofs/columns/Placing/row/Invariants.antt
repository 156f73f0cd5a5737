use Rattle.std.proofs.Common.{◌≡◌, ◌<◌, ◌/◌, ℕ, true, Some, length}
use Rattle.std.specs.Prelude.{slice_get}
use Rattle.graph_core.specs.Graphs.{Block}
use Rattle.graph_core.specs.Computations.{Computation}
use Rattle.motion_pass_placement.specs.Columns.{AreFated, all_in, blocks_in, reached_in, row_of}
use Rattle.motion_pass_placement.proofs.columns.Placing.row.Given as goal

abbrev pub invariant-loop-index : goal.invariant-loop-index
invariant-loop-index l = record {
  size : length l.fates.items ≡ length l.block.instructions.items;
  told : (b : Block) → slice_get (blocks_in l.self) l.number ≡ Some b → reached_in l.self l.number ≡ true → (k : ℕ) (e : Computation) → slice_get (all_in l.self) k ≡ Some e → k / 64 < l.index
      → AreFated (blocks_in l.self) l.number b (row_of l.self.numbers.now l.number) k e l.fates.items;
}
