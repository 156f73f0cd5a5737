use Rattle.currency_shown.specs.Chains.{AreFull, AreLinked}
use Rattle.currency_shown.proofs.states.States.round.Given as goal

abbrev pub invariant-loop-chain : goal.invariant-loop-chain
invariant-loop-chain l = AreLinked l.function.graph.now.blocks.items l.chains → AreFull l.function l.fn.self → AreFull l.function l.self
