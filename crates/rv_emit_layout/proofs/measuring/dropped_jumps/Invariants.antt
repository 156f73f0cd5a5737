use Rattle.std.proofs.Common.{◌≡◌, ℕ, ◌+◌, ◌≤◌, ◌==◌, ◌&&◌, length, slice_index, count_by}
use Rattle.std.specs.List.{range_with_len}
use Rattle.rv_emit_sequence.specs.Sequences.{counted, sequence_view}
use Rattle.rv_emit_layout.specs.Longest.{is_dropped}
use Rattle.rv_emit_layout.proofs.measuring.dropped_jumps.Given as goal

abbrev pub invariant-loop-block : goal.invariant-loop-block
invariant-loop-block l = record {
  size : length l.dropped.items ≡ length l.sequence.pieces.items + 1;
  counts : (k : ℕ) → k ≤ length l.sequence.pieces.items → slice_index l.dropped.items k ≡ counted (count_by (λ b. is_dropped (sequence_view l.sequence) b && slice_index l.sequence.ends.items b == k) (range_with_len 0 l.block));
}
