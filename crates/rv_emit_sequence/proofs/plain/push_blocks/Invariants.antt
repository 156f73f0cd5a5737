use Rattle.std.proofs.Common.{length, ◌≡◌, ◌≤◌, ◌+◌, map}
use Rattle.graph_core.specs.Graphs.{block_view}
use Rattle.rv_emit_words.specs.Words.{words_in}
use Rattle.rv_emit_sequence.specs.Sequences.{ground_of, plainly, sequence_view, with_standing}
use Rattle.rv_emit_sequence.specs.Words.{most_words_of_blocks}
use Rattle.rv_emit_sequence.proofs.plain.push_blocks.Given as goal

abbrev pub invariant-loop-left : goal.invariant-loop-left
invariant-loop-left l = record {
  few : words_in l.sequence.pieces.items + most_words_of_blocks (map block_view l.left) ≤ words_in l.fn.sequence.pieces.items + most_words_of_blocks (map block_view l.blocks);
  grown : with_standing (ground_of l.storage) (plainly l.number (map block_view l.left)) (sequence_view l.sequence) ≡ with_standing (ground_of l.storage) (plainly 0 (map block_view l.blocks)) (sequence_view l.fn.sequence);
}

abbrev pub decreases-loop-left : goal.decreases-loop-left
decreases-loop-left l = length l.left
