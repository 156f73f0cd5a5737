use Rattle.std.proofs.Common.{◌≡◌, ℕ, ◌<◌, length}
use Rattle.graph_paths.specs.PathMarksTable.{bits_of}
use Rattle.motion_pass_problems.specs.Flowing.{is_at}
use Rattle.motion_pass_problems.proofs.flow.words_of.Given as goal

abbrev pub invariant-loop-number : goal.invariant-loop-number
invariant-loop-number l = record {
  size : length l.words.items ≡ l.number;
  same : (n k : ℕ) → n < l.number → k < 64 → is_at l.words.items k n ≡ bits_of l.rows n k;
}
