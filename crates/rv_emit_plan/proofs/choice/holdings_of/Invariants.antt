use Rattle.rv_emit_plan.specs.Plans.{AreChosen}
use Rattle.rv_emit_plan.proofs.choice.holdings_of.Given as goal

abbrev pub invariant-loop-candidate : goal.invariant-loop-candidate
invariant-loop-candidate l = AreChosen l.choice.chosen.items
