use Rattle.std.proofs.Common.{◌≡◌, ◌+◌, ◌≤◌, drop}
use Rattle.rv_emit_words.specs.Words.{words_in}
use Rattle.rv_emit_words.specs.Shown.{shown}
use Rattle.rv_emit_words.specs.Growing.{code_state}
use Rattle.rv_emit_code.specs.Ends.{with_loads}
use Rattle.rv_emit_code.proofs.ending.load_held.Given as goal

abbrev pub invariant-loop-held : goal.invariant-loop-held
invariant-loop-held l = record {
  few : words_in l.code.pieces.items + l.left ≤ words_in l.fn.code.pieces.items + l.room;
  stops : shown l.code ≡ shown l.fn.code;
  grown : with_loads l.fn.base l.left (drop l.held-index l.fn.loads) (code_state l.code) ≡ with_loads l.fn.base l.fn.room l.fn.loads (code_state l.fn.code);
}
