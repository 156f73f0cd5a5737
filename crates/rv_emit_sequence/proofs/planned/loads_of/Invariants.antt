use Rattle.rv_emit_plan.specs.Plans.{HoldsWell}
use Rattle.rv_emit_sequence.specs.Sequences.{AreConstants}
use Rattle.rv_emit_sequence.proofs.planned.loads_of.Given as goal

abbrev pub invariant-loop-label : goal.invariant-loop-label
invariant-loop-label l = HoldsWell l.plan → AreConstants l.loads.items
