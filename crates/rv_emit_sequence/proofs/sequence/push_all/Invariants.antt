use Rattle.std.proofs.Common.{length, ◌≡◌, ◌+◌, ◌++◌, map}
use Rattle.rv_emit_words.specs.Words.{words_in}
use Rattle.rv_emit_sequence.specs.Sequences.{numbered}
use Rattle.rv_emit_sequence.proofs.sequence.push_all.Given as goal

abbrev pub invariant-loop-left : goal.invariant-loop-left
invariant-loop-left l = record {
  few : words_in l.pieces.items + words_in l.left ≡ words_in l.fn.pieces.items + words_in l.more;
  grown : l.pieces.items ++ map (numbered l.before) l.left ≡ l.fn.pieces.items ++ map (numbered l.before) l.more;
}

abbrev pub decreases-loop-left : goal.decreases-loop-left
decreases-loop-left l = length l.left
