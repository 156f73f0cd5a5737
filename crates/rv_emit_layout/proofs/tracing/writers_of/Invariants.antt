use Rattle.std.proofs.Common.{◌≡◌, length, min, nat_le, replicate, slice_index}
use Rattle.rv_emit_layout.specs.Layouts.{layout_view}
use Rattle.rv_emit_layout.specs.Tracing.{with_writers}
use Rattle.rv_emit_layout.proofs.tracing.writers_of.Given as goal

abbrev pub invariant-loop-left : goal.invariant-loop-left
invariant-loop-left l =
    with_writers (layout_view l.layout) l.first (λ i. nat_le l.sequence.begin i) l.index l.left l.writers.items
    ≡ with_writers (layout_view l.layout) l.first (λ i. nat_le l.sequence.begin i) 0 l.sequence.pieces.items (replicate (slice_index l.sequence.numbers.items (min (length l.sequence.ends.items) 4294967295)) 0)

abbrev pub decreases-loop-left : goal.decreases-loop-left
decreases-loop-left l = length l.left
