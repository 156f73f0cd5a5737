use Rattle.std.proofs.Common.{◌≡◌, ◌+◌, ◌*◌, ◌≤◌, length, map}
use Rattle.graph_core.specs.Graphs.{operand_view}
use Rattle.rv_emit_words.specs.Words.{words_in}
use Rattle.rv_emit_words.specs.Shown.{shown}
use Rattle.rv_emit_words.specs.Growing.{code_state}
use Rattle.rv_emit_storage.specs.Storages.{storage_view}
use Rattle.rv_emit_instructions.specs.Calls.{passed_from}
use Rattle.rv_emit_instructions.proofs.call.pass_all.Given as goal

abbrev pub invariant-loop-left : goal.invariant-loop-left
invariant-loop-left l = record {
  few : words_in l.code.pieces.items + 3 * length l.left ≤ words_in l.fn.code.pieces.items + 3 * length l.fn.arguments;
  small : l.number ≤ 255;
  stops : shown l.code ≡ shown l.fn.code;
  grown : passed_from (storage_view l.fn.storage) l.number (map operand_view l.left) (code_state l.code) ≡ passed_from (storage_view l.fn.storage) 0 (map operand_view l.fn.arguments) (code_state l.fn.code);
}

abbrev pub decreases-loop-left : goal.decreases-loop-left
decreases-loop-left l = length l.left
