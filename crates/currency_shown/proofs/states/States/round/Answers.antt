use Rattle.std.proofs.Common.{List, ℕ, subst, sym}
use Rattle.currency_notes.proofs.Lists.{get_among}
use Rattle.currency_shown.specs.Chains.{IsLinked}
use Rattle.currency_shown.proofs.states.States.round.Goals as goal

pub loop-chain-preserved : goal.loop-chain-preserved
loop-chain-preserved c = λ linked before.
    (let one = c.chain-item.result in
    c.in_ok-has_left.ensures (subst (λ (l : List ℕ). IsLinked c.args.function.now.graph.now.blocks.items l) (sym c.deref.ensures.value) (linked one (get_among c.args.chains.now c.loop-chain.chain-index one c.loop-chain-test.true c.chain-item.is))) (c.loop-chain.invariant linked before))
