use Rattle.std.proofs.Common.{◌≡◌, ◌+◌, ◌≤◌, drop}
use Rattle.rv_emit_words.specs.Words.{words_in}
use Rattle.rv_emit_words.specs.Shown.{shown}
use Rattle.rv_emit_words.specs.Growing.{code_state, with_code}
use Rattle.rv_emit_code.specs.Leaving.{restoring_code}
use Rattle.rv_emit_code.proofs.leaving.restore.Given as goal

abbrev pub invariant-loop-register : goal.invariant-loop-register
invariant-loop-register l = record {
  few : words_in l.code.pieces.items ≤ words_in l.fn.code.pieces.items + l.register-index;
  stops : shown l.code ≡ shown l.fn.code;
  grown : with_code (restoring_code (drop l.register-index l.fn.saved) l.offset) (code_state l.code) ≡ with_code (restoring_code l.fn.saved 4) (code_state l.fn.code);
}
