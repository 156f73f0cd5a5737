use Rattle.std.proofs.Common.{◌≡◌, ◌+◌, drop}
use Rattle.std.specs.List.{prefix_len}
use Rattle.c_token.specs.Bytes.{is_word_byte}
use Rattle.c_token.proofs.word.word_len.Given as goal

abbrev pub invariant-loop-i : goal.invariant-loop-i
invariant-loop-i l = prefix_len is_word_byte l.text ≡ l.i + prefix_len is_word_byte (drop l.i l.text)
