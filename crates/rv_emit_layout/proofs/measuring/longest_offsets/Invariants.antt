use Rattle.std.proofs.Common.{◌≡◌, ◌+◌, ◌*◌, cond, map}
use Rattle.std.specs.List.{range_with_len}
use Rattle.rv_emit_sequence.specs.Sequences.{counted, sequence_view}
use Rattle.rv_emit_layout.specs.Reaches.{farthest, jump_width}
use Rattle.rv_emit_layout.specs.Longest.{dropped_at, has_word_at, long_before}
use Rattle.rv_emit_layout.proofs.measuring.longest_offsets.Given as goal

abbrev pub invariant-loop-index : goal.invariant-loop-index
invariant-loop-index l = record {
  words : counted (l.words + (jump_width (farthest l.room) * dropped_at (sequence_view l.sequence) l.index + cond (has_word_at l.sequence.pieces.items l.index) 1 0)) ≡ counted (long_before l.room (sequence_view l.sequence) l.index);
  offsets : l.offsets.items ≡ map (λ k. counted (long_before l.room (sequence_view l.sequence) k)) (range_with_len 0 l.index);
}
