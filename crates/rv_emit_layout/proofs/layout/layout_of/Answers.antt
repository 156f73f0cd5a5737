use Rattle.rv_emit_sequence.specs.Sequences.{sequence_view}
use Rattle.rv_emit_layout.specs.Layouts.{layout_view, longest_view}
use Rattle.rv_emit_layout.proofs.Layouts.{layout_is}
use Rattle.rv_emit_layout.proofs.layout.layout_of.Goals as goal

pub returns-clause-layout : goal.returns-clause-layout
returns-clause-layout c = λ few longest. layout_is (longest_view c.args.measured) (sequence_view c.args.sequence.now) (layout_view c.in_ok-layout.layout) c.in_ok-layout.ensures longest few
