use Rattle.std.proofs.Common.{get_or, subst}
use Rattle.currency_shown.specs.Chains.{comes_to, AreEqualAll}
use Rattle.currency_shown.proofs.Chaining.{start_of}
use Rattle.currency_shown.proofs.states.States.leave.Goals as goal

pub returns-in_ok-leave_with-in-Some : goal.returns-in_ok-leave_with-in-Some
returns-in_ok-leave_with-in-Some c = λ linked before.
    (let f = c.args.function.now in
    let l = get_or c.args.chain.now 0 0 in
    c.in_ok-leave_with-in-Some.ensures linked (start_of f c.args.self.now l c.in-Some.state (subst (λ o. AreEqualAll o (comes_to c.args.self.now l)) c.in-Some.is c.in_ok-state.ensures) before) before)
