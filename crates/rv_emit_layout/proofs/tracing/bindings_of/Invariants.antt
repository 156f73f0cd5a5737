use Rattle.std.proofs.Common.{◌≡◌, length, nat_lt, replicate}
use Rattle.rv_emit_layout.specs.Layouts.{layout_view}
use Rattle.rv_emit_layout.specs.Tracing.{with_writers}
use Rattle.rv_emit_layout.proofs.tracing.bindings_of.Given as goal

abbrev pub invariant-loop-left : goal.invariant-loop-left
invariant-loop-left l =
    with_writers (layout_view l.layout) l.first (λ i. nat_lt i l.sequence.begin) l.index l.left l.bindings.items
    ≡ with_writers (layout_view l.layout) l.first (λ i. nat_lt i l.sequence.begin) 0 l.sequence.pieces.items (replicate l.parameters 0)

abbrev pub decreases-loop-left : goal.decreases-loop-left
decreases-loop-left l = length l.left
