use Rattle.std.proofs.Common.{◌≡◌, ◌-◌, ◌++◌, length, min}
use Rattle.rv_emit_sequence.specs.Sequences.{sequence_view}
use Rattle.rv_emit_layout.specs.Layouts.{layout_view}
use Rattle.rv_emit_layout.specs.Tracing.{stops_of_blocks}
use Rattle.rv_emit_layout.proofs.tracing.push_stops.Given as goal

abbrev pub invariant-loop-block : goal.invariant-loop-block
invariant-loop-block l =
    l.stops.items ++ stops_of_blocks (sequence_view l.sequence) (layout_view l.layout) l.first l.block (min (length l.sequence.ends.items) 4294967295 - l.block)
    ≡ l.fn.stops.items ++ stops_of_blocks (sequence_view l.sequence) (layout_view l.layout) l.first 0 (min (length l.sequence.ends.items) 4294967295)
