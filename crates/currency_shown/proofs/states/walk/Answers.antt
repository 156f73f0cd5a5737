use Rattle.std.proofs.Common.{◌+◌, List, ℕ, arith, drop, get_or, subst}
use Rattle.currency_notes.proofs.Lists.{drop_end, drop_more_any}
use Rattle.currency_shown.proofs.Chaining.{GoesOn, goes_first, goes_on}
use Rattle.currency_shown.proofs.states.walk.Goals as goal

pub loop-number-init : goal.loop-number-init
loop-number-init c = λ first last more linked is end start. goes_first c.args.function.now c.args.state.now c.args.chain.now more first last is linked end start

pub loop-number-preserved : goal.loop-number-preserved
loop-number-preserved c = λ first last more linked is end start.
    (let f = c.args.function.now in
    let chain = c.args.chain.now in
    let i = c.loop-number.number-index in
    goes_on f c.loop-number.state c.walk_block.new.state (get_or chain i 0) (drop (i + 1) chain) last c.walk_block.ensures
    (subst (λ (l : List ℕ). GoesOn f c.loop-number.state l last) (drop_more_any chain i 0 c.loop-number-test.true) (c.loop-number.invariant first last more linked is end start)))

pub returns : goal.returns
returns c = λ first last more linked is end start.
    subst (λ (l : List ℕ). GoesOn c.args.function.now c.loop-number.state l last) (drop_end c.args.chain.now c.loop-number.number-index (omega arith)) (c.loop-number.invariant first last more linked is end start)
