use Rattle.std.proofs.Common.{◌+◌, slice_index}
use Rattle.bit_rows.specs.Words.{passed_word}
use Rattle.bit_rows.proofs.Moved.{AreWritten}
use Rattle.bit_rows.proofs.words.pass_words.Given as goal

abbrev pub invariant-loop-k : goal.invariant-loop-k
invariant-loop-k l = AreWritten l.fn.words l.to (λ k. passed_word (slice_index l.fn.words (l.from + k)) (slice_index l.kept (l.at + k)) (slice_index l.written (l.at + k))) l.words l.k
