use Rattle.std.proofs.Common.{◌<◌, ◌∙◌, length, min, arith}
use Rattle.rv_emit_sequence.specs.Sequences.{sequence_view}
use Rattle.rv_emit_layout.specs.Layouts.{layout_view}
use Rattle.rv_emit_layout.proofs.StopsTold.{block_told}
use Rattle.rv_emit_layout.proofs.tracing.push_stops.Goals as goal

pub loop-block-preserved : goal.loop-block-preserved
loop-block-preserved c =
    let low : c.loop-block.block < min (length c.args.sequence.now.ends.items) 4294967295 = omega (arith, c.loop-block-test.true, c.count-block-end.ensures, c.len.ensures, c.args.sequence.now.ends.ok.0) in
    block_told (sequence_view c.args.sequence.now) (layout_view c.args.layout.now) c.args.first c.loop-block.block (min (length c.args.sequence.now.ends.items) 4294967295) c.loop-block.stops.items c.push_stops_of.new.stops.items low c.in_ok-push_stops_of.ensures
    ∙ c.loop-block.invariant
