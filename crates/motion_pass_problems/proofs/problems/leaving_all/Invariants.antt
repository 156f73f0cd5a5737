use Rattle.std.proofs.Common.{◌≡◌, ◌<◌, ◌&&◌, ◌||◌, ℕ, length}
use Rattle.motion_pass_problems.specs.Flowing.{is_at, lets_pass, makes}
use Rattle.motion_pass_problems.proofs.problems.leaving_all.Given as goal

abbrev pub invariant-loop-number : goal.invariant-loop-number
invariant-loop-number l = record {
  count : length l.words.items ≡ l.number;
  each : (n : ℕ) → n < l.number → (k : ℕ) → is_at l.words.items k n ≡ (makes l.passages k n || (is_at l.comes k n && lets_pass l.passages k n));
}
