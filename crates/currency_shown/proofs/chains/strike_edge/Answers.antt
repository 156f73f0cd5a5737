use Rattle.std.proofs.Common.{◌≡◌, ℕ, List, Option, Some, subst, sym, ◌∙◌}
use Rattle.std.proofs.lemmas.Option.{none-some, same_Some}
use Rattle.currency_shown.specs.Chains.{name_at, IsStruck}
use Rattle.currency_shown.proofs.Linking.{name_none, struck_put, struck_same}
use Rattle.currency_shown.proofs.chains.strike_edge.Goals as goal

pub returns-then-not-is_next-clause-struck : goal.returns-then-not-is_next-clause-struck
returns-then-not-is_next-clause-struck c = subst (λ (xs : List (Option ℕ)). IsStruck c.args.before.now.items xs) (sym c.put_name.ensures) (struck_put c.args.before.now.items c.args.to)

pub returns-then-not-is_next-clause-edge : goal.returns-then-not-is_next-clause-edge
returns-then-not-is_next-clause-edge c = λ m e. absurd (name_none c.args.before.now.items c.args.to m (subst (λ (xs : List (Option ℕ)). name_at xs c.args.to ≡ Some m) c.put_name.ensures e))

pub returns-else-not-is_next-clause-struck : goal.returns-else-not-is_next-clause-struck
returns-else-not-is_next-clause-struck c = struck_same c.args.before.now.items

pub returns-else-not-is_next-clause-edge : goal.returns-else-not-is_next-clause-edge
returns-else-not-is_next-clause-edge c = λ m e.
    (let both = c.is_next.ensures c.if-not-is_next.false in (sym (same_Some c.in-Some.found m (sym c.in-Some.is ∙ c.name_of.ensures ∙ e)) ∙ both.0, both.1))

pub returns-in-None-clause-struck : goal.returns-in-None-clause-struck
returns-in-None-clause-struck c = struck_same c.args.before.now.items

pub returns-in-None-clause-edge : goal.returns-in-None-clause-edge
returns-in-None-clause-edge c = λ m e. absurd (none-some m (sym c.in-None.is ∙ c.name_of.ensures ∙ e))
