use Rattle.std.proofs.Common.{◌≡◌, ◌↔◌, ◌∙◌, sym, ap, subst, true, Bool}
use Rattle.std.specs.List.{list_any}
use Rattle.home_assign.specs.Holders.{names_from}
use Rattle.home_assign.specs.Sharing.{IsForeign, is_other}
use Rattle.home_assign.proofs.Holding.{foreign_tells}
use Rattle.home_assign.proofs.sharing.is_shared.Goals as goal

pub returns-in-Some : goal.returns-in-Some
returns-in-Some c =
    let r = c.in-Some.register in
    let homes = c.args.homes.now in
    let P : Bool → Type 0 = λ b. (b ≡ true) ↔ IsForeign homes c.args.own.now c.args.scalar in
    subst P (sym (c.has_other.ensures ∙ ap (list_any (is_other c.args.own.now c.args.scalar)) (c.deref.ensures.value ∙ ap (λ v. v.items) c.index-holders-register.is ∙ c.requires.holders.at r _ (c.requires.registers c.args.scalar r c.in-Some.ensures.some))))
    (foreign_tells homes c.args.own.now c.args.scalar r c.in-Some.ensures.some)
