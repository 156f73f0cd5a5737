use Rattle.std.proofs.Common.{◌≡◌, ◌<◌, ℕ, length}
use Rattle.motion_pass_problems.specs.Problems.{IsUnsafePassage, local_of, passage_of}
use Rattle.motion_pass_problems.proofs.problems.Problems.unsafe_passages.Given as goal

abbrev pub invariant-loop-number : goal.invariant-loop-number
invariant-loop-number l = record {
  count : length l.passages.items ≡ l.number;
  each : (n : ℕ) → n < l.number → IsUnsafePassage (local_of l.self.locals.now n) (passage_of l.passages.items n);
}
