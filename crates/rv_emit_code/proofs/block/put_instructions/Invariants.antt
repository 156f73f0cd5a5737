use Rattle.std.proofs.Common.{◌≡◌, ◌+◌, ◌≤◌, length, map}
use Rattle.rv_emit_words.specs.Words.{words_in}
use Rattle.rv_emit_words.specs.Shown.{shown}
use Rattle.rv_emit_words.specs.Growing.{code_state}
use Rattle.rv_emit_storage.specs.Storages.{storage_view}
use Rattle.rv_emit_code.specs.Blocks.{with_instructions}
use Rattle.rv_emit_code.specs.Stops.{shown_after}
use Rattle.graph_core.specs.Graphs.{instruction_view}
use Rattle.graph_core.specs.Validity.{total}
use Rattle.rv_emit_words.specs.InstructionWords.{most_words_of}
use Rattle.rv_emit_code.proofs.block.put_instructions.Given as goal

abbrev pub invariant-loop-left : goal.invariant-loop-left
invariant-loop-left l = record {
  few : words_in l.code.pieces.items + total most_words_of (map instruction_view l.left) ≤ words_in l.fn.code.pieces.items + total most_words_of (map instruction_view l.fn.instructions);
  stops : shown_after l.fn.storage.entry.0 (map instruction_view l.left) (shown l.code) ≡ shown_after l.fn.storage.entry.0 (map instruction_view l.fn.instructions) (shown l.fn.code);
  grown : with_instructions (storage_view l.fn.storage) l.fn.storage.entry.0 l.number (map instruction_view l.left) (code_state l.code) ≡ with_instructions (storage_view l.fn.storage) l.fn.storage.entry.0 0 (map instruction_view l.fn.instructions) (code_state l.fn.code);
}

abbrev pub decreases-loop-left : goal.decreases-loop-left
decreases-loop-left l = length l.left
