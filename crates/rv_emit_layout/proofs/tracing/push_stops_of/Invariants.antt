use Rattle.std.proofs.Common.{◌≡◌, ◌-◌, ◌++◌, slice_index}
use Rattle.rv_emit_sequence.specs.Sequences.{sequence_view}
use Rattle.rv_emit_layout.specs.Layouts.{layout_view}
use Rattle.rv_emit_layout.specs.Tracing.{stops_of_block, stops_of_pieces}
use Rattle.rv_emit_layout.proofs.tracing.push_stops_of.Given as goal

abbrev pub invariant-loop-index : goal.invariant-loop-index
invariant-loop-index l =
    l.stops.items ++ stops_of_pieces (sequence_view l.sequence) (layout_view l.layout) l.first l.index (slice_index l.sequence.ends.items l.block - l.index)
    ≡ l.fn.stops.items ++ stops_of_block (sequence_view l.sequence) (layout_view l.layout) l.first l.block
