use Rattle.std.proofs.Common.{◌<◌, subst, sym}
use Rattle.currency_shown.specs.Chains.{rank_or, IsWithinSome}
use Rattle.currency_notes.specs.Ranks.{rank}
use Rattle.currency_shown.proofs.Chaining.{lower_equal}
use Rattle.currency_shown.proofs.states.come.Goals as goal

pub returns-in-Some-clause-falls : goal.returns-in-Some-clause-falls
returns-in-Some-clause-falls c = λ apart most le.
    subst (λ o. rank c.join.new.self < rank_or most o) (sym c.in-Some.is) (c.join.ensures.falls (λ within. apart (subst (λ o. IsWithinSome o c.args.state.now) (sym c.in-Some.is) within)))
