use Rattle.std.proofs.Common.{◌≡◌, ◌<◌, ℕ, true, false, Some, [], length, map}
use Rattle.std.specs.Prelude.{slice_get, slice_index_or}
use Rattle.graph_core.specs.Graphs.{Block, block_view}
use Rattle.motion_pass_points.specs.Columns.{AreNumbersAlong}
use Rattle.motion_pass_points.specs.Numbers.{views_of}
use Rattle.motion_pass_placement.specs.Columns.{row_of}
use Rattle.motion_pass_placement.proofs.columns.numbers_of.Given as goal

abbrev pub invariant-loop-number : goal.invariant-loop-number
invariant-loop-number l = record {
  count : length l.all.items ≡ l.number;
  along : (n : ℕ) (b : Block) → n < l.number → slice_get (map block_view l.blocks) n ≡ Some b → slice_index_or l.reached n false ≡ true → AreNumbersAlong (views_of l.computations) b.instructions (row_of l.all.items n);
  none : (n : ℕ) → slice_index_or l.reached n false ≡ false → row_of l.all.items n ≡ [];
}
