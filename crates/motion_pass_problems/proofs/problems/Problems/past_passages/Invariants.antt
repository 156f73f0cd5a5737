use Rattle.std.proofs.Common.{◌≡◌, ◌<◌, ℕ, length}
use Rattle.std.specs.Prelude.{slice_index_or}
use Rattle.motion_pass_problems.specs.Problems.{IsPastPassage, local_of, passage_of}
use Rattle.motion_pass_problems.proofs.problems.Problems.past_passages.Given as goal

abbrev pub invariant-loop-number : goal.invariant-loop-number
invariant-loop-number l = record {
  count : length l.passages.items ≡ l.number;
  each : (n : ℕ) → n < l.number → IsPastPassage (local_of l.self.locals.now n) (slice_index_or l.unsafe_ends n 0) (slice_index_or l.unhad_ends n 0) (passage_of l.passages.items n);
}
