use Rattle.currency_shown.specs.Chains.{AreFull, AreLinked}
use Rattle.currency_shown.proofs.states.States.new.Given as goal

abbrev pub invariant-loop : goal.invariant-loop
invariant-loop l = AreLinked l.function.graph.now.blocks.items l.chains → AreFull l.function l.states
