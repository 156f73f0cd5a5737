use Rattle.rv_emit_sequence.specs.Sequences.{sequence_view}
use Rattle.rv_emit_layout.specs.Layouts.{layout_view}
use Rattle.rv_emit_layout.proofs.StopsTold.{none_told}
use Rattle.rv_emit_layout.proofs.tracing.push_stop_at.Goals as goal

pub returns-in-None : goal.returns-in-None
returns-in-None c = none_told (sequence_view c.args.sequence.now) (layout_view c.args.layout.now) c.args.first c.args.index c.args.stops.now.items c.deref.result.now c.deref.ensures.value c.in-None.ensures.lookup.3
