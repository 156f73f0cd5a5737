use Rattle.rv_emit_plan.specs.Plans.{AreChosen, AreConstants}
use Rattle.rv_emit_plan.proofs.planning.held_in.Given as goal

abbrev pub invariant-loop-index : goal.invariant-loop-index
invariant-loop-index l = AreChosen l.holdings → AreConstants l.held.items
