use Rattle.std.proofs.Common.{◌+◌, slice_index}
use Rattle.bit_rows.proofs.Moved.{AreWritten}
use Rattle.bit_rows.proofs.words.copy_words.Given as goal

abbrev pub invariant-loop-k : goal.invariant-loop-k
invariant-loop-k l = AreWritten l.fn.words l.to (λ k. slice_index l.other (l.at + k)) l.words l.k
