use Rattle.std.proofs.Common.{◌≡◌, Some, ap, sym, subst, ◌∙◌}
use Rattle.std.proofs.lemmas.Option.{none-some, same_Some}
use Rattle.currency_shown.specs.Found.{IsTold}
use Rattle.currency_shown.specs.Numbering.{scalar_in}
use Rattle.currency_shown.proofs.Adding.{only_of}
use Rattle.currency_shown.proofs.found.Found.add_variable.Goals as goal

pub returns-in_ok-add-in-Some-clause-told : goal.returns-in_ok-add-in-Some-clause-told
returns-in_ok-add-in-Some-clause-told c = λ x number.
    subst (λ k. IsTold c.args.function.now.homes c.args.state.now c.args.place.0 c.add.new.self.unshown.items k) (same_Some c.in-Some.scalar x (sym c.in-Some.is ∙ c.scalar_of.ensures ∙ number)) c.in_ok-add-in-Some.ensures.told

pub returns-in_ok-add-in-Some-clause-only : goal.returns-in_ok-add-in-Some-clause-only
returns-in_ok-add-in-Some-clause-only c =
    only_of (λ x. x ≡ c.in-Some.scalar) (λ x. scalar_in c.args.numbering.now c.args.var.0 ≡ Some x) c.args.self.now.unshown.items c.add.new.self.unshown.items (λ x q. sym c.scalar_of.ensures ∙ c.in-Some.is ∙ ap Some (sym q)) c.in_ok-add-in-Some.ensures.only

pub returns-in-None-clause-told : goal.returns-in-None-clause-told
returns-in-None-clause-told c = λ x number. absurd (none-some x (sym c.in-None.is ∙ c.scalar_of.ensures ∙ number))
