use Rattle.std.proofs.Common.{◌<◌, ◌∙◌, ap, subst, slice_index}
use Rattle.rv_emit_sequence.specs.Sequences.{sequence_view}
use Rattle.rv_emit_layout.specs.Layouts.{layout_view}
use Rattle.rv_emit_layout.proofs.StopsTold.{piece_told}
use Rattle.rv_emit_layout.proofs.tracing.push_stops_of.Goals as goal

pub loop-index-preserved : goal.loop-index-preserved
loop-index-preserved c =
    piece_told (sequence_view c.args.sequence.now) (layout_view c.args.layout.now) c.args.first c.loop-index.index (slice_index c.args.sequence.now.ends.items c.args.block) c.loop-index.stops.items c.push_stop_at.new.stops.items
    (subst (λ n. c.loop-index.index < n) (c.at-index-end.ensures ∙ ap (λ l. slice_index l c.args.block) c.deref-2.ensures.value) c.loop-index-test.true) c.in_ok-push_stop_at.ensures
    ∙ c.loop-index.invariant
