use Rattle.std.proofs.Common.{◌≡◌, ◌<◌, ℕ, Some, length, map}
use Rattle.std.specs.Prelude.{slice_get}
use Rattle.graph_core.specs.Graphs.{Block, block_view}
use Rattle.motion_pass_problems.specs.Flowing.{is_at}
use Rattle.motion_pass_problems.specs.Facts.{is_return}
use Rattle.motion_pass_problems.proofs.problems.Problems.unsafe_begins.Given as goal

abbrev pub invariant-loop-number : goal.invariant-loop-number
invariant-loop-number l = record {
  count : length l.words.items ≡ l.number;
  each : (n : ℕ) → n < l.number → (k : ℕ) (b : Block) → slice_get (map block_view l.self.blocks.now) n ≡ Some b → is_at l.words.items k n ≡ is_return b.end;
}
