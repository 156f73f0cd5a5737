use Rattle.std.proofs.Common.{◌≡◌, ◌<◌, ◌&&◌, ℕ, length}
use Rattle.motion_pass_problems.specs.Flowing.{is_at}
use Rattle.motion_pass_problems.proofs.problems.both_all.Given as goal

abbrev pub invariant-loop-number : goal.invariant-loop-number
invariant-loop-number l = record {
  count : length l.words.items ≡ l.number;
  each : (n : ℕ) → n < l.number → (k : ℕ) → is_at l.words.items k n ≡ (is_at l.some k n && is_at l.other k n);
}
