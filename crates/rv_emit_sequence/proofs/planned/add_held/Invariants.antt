use Rattle.std.proofs.Common.{length}
use Rattle.rv_emit_sequence.specs.Sequences.{AreConstants}
use Rattle.rv_emit_sequence.proofs.planned.add_held.Given as goal

abbrev pub invariant-loop-left : goal.invariant-loop-left
invariant-loop-left l = AreConstants l.fn.all.items → AreConstants l.held → AreConstants l.all.items × AreConstants l.left

abbrev pub decreases-loop-left : goal.decreases-loop-left
decreases-loop-left l = length l.left
