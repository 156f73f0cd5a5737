use Rattle.std.proofs.Common.{◌≡◌, ◌+◌, ◌≤◌}
use Rattle.rv_emit_words.specs.Words.{words_in}
use Rattle.rv_emit_words.specs.Shown.{shown}
use Rattle.rv_emit_words.specs.Growing.{code_state, with_code}
use Rattle.rv_emit_instructions.specs.Filling.{zeros_code}
use Rattle.rv_emit_instructions.proofs.filling.put_zeros.Given as goal

abbrev pub invariant-loop-word : goal.invariant-loop-word
invariant-loop-word l = record {
  few : words_in l.code.pieces.items ≤ words_in l.fn.code.pieces.items + l.word;
  stops : shown l.code ≡ shown l.fn.code;
  grown : code_state l.code ≡ with_code (zeros_code l.fn.offset l.word) (code_state l.fn.code);
}
