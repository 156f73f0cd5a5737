use Rattle.std.proofs.Common.{length}
use Rattle.graph_core.specs.Paths.{Among}
use Rattle.rv_emit_sequence.proofs.held.holds.Given as goal

abbrev pub invariant-loop-left : goal.invariant-loop-left
invariant-loop-left l = Among l.wanted l.left → Among l.wanted l.held

abbrev pub decreases-loop-left : goal.decreases-loop-left
decreases-loop-left l = length l.left
