use Rattle.std.proofs.Common.{◌≡◌, ℕ, ◌<◌, ◌≤◌, false, length}
use Rattle.graph_paths.specs.PathMarksTable.{bits_of}
use Rattle.motion_pass_problems.specs.Flowing.{is_at}
use Rattle.motion_pass_problems.proofs.flow.rows_of.Given as goal

abbrev pub invariant-loop-number : goal.invariant-loop-number
invariant-loop-number l = record {
  count : l.rows.count ≡ length l.words;
  width : l.rows.width ≡ 64;
  done : (n k : ℕ) → n < l.number → k < 64 → bits_of l.rows n k ≡ is_at l.words k n;
  ahead : (n k : ℕ) → l.number ≤ n → bits_of l.rows n k ≡ false;
}
