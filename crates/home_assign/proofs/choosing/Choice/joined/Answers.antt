use Rattle.std.proofs.Common.{◌≡◌, ◌∙◌, sym, subst, true≢false}
use Rattle.std.proofs.lemmas.Option.{same_Some}
use Rattle.home_assign.specs.Registers.{IsFreeFor}
use Rattle.home_assign.specs.Choosing.{HasRegister}
use Rattle.home_assign.proofs.Choices.{register_once}
use Rattle.home_assign.proofs.choosing.Choice.joined.Goals as goal

pub returns-in_err-register-clause-none : goal.returns-in_err-register-clause-none
returns-in_err-register-clause-none c = λ e k wished free.
    let same : c.in_ok-joined.field-0 ≡ wished.0 = same_Some c.in_ok-joined.field-0 wished.0 (sym c.in_ok-joined.was ∙ wished.1) in
    c.register_of.ensures.none c.in_err-register.was k (subst (λ y. HasRegister c.args.self.now.homes.items y k) (sym same) wished.2)

pub returns-else-is_free-clause-none : goal.returns-else-is_free-clause-none
returns-else-is_free-clause-none c = λ e k wished free.
    let same : c.in_ok-joined.field-0 ≡ wished.0 = same_Some c.in_ok-joined.field-0 wished.0 (sym c.in_ok-joined.was ∙ wished.1) in
    let once : k ≡ c.in_ok-register.register =
    register_once c.args.self.now.homes.items c.in_ok-joined.field-0 k c.in_ok-register.register (subst (λ y. HasRegister c.args.self.now.homes.items y k) (sym same) wished.2) c.in_ok-register.ensures.some in
    true≢false (sym (c.is_free.ensures.free.1 (subst (λ j. IsFreeFor c.args.interference.now j c.args.name) once free)) ∙ c.if-is_free.false)
