use Rattle.std.proofs.Common.{◌≡◌, ◌↔◌, ℕ, ◌+◌, ◌<◌, true, false, slice_index}
use Rattle.bit_rows.specs.Words.{met_word}
use Rattle.bit_rows.proofs.Moved.{AreWritten}
use Rattle.bit_rows.proofs.words.add_words.Given as goal

abbrev pub invariant-loop-k : goal.invariant-loop-k
invariant-loop-k l = record {
  written : AreWritten l.fn.words l.to (λ k. met_word true (slice_index l.other (l.at + k)) (slice_index l.fn.words (l.to + k))) l.words l.k;
  tells :
      (l.changed ≡ false)
      ↔ ((j : ℕ) → j < l.k → met_word true (slice_index l.other (l.at + j)) (slice_index l.fn.words (l.to + j)) ≡ slice_index l.fn.words (l.to + j));
}
