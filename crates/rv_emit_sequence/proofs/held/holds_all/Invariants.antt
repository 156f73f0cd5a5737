use Rattle.std.proofs.Common.{length}
use Rattle.rv_emit_sequence.specs.Sequences.{Holds}
use Rattle.rv_emit_sequence.proofs.held.holds_all.Given as goal

abbrev pub invariant-loop-left : goal.invariant-loop-left
invariant-loop-left l = Holds l.held l.left → Holds l.held l.wanted

abbrev pub decreases-loop-left : goal.decreases-loop-left
decreases-loop-left l = length l.left
