use Rattle.std.proofs.Common.{◌≡◌, refl, sym, subst, length, ◌++◌, ◌∷◌, []}
use Rattle.std.proofs.Math.ListN.{set}
use Rattle.graph_homes.specs.declared.home.Home.{Home}
use Rattle.graph_homes.specs.declared.home.Home.TheVariants.{Register, Slot}
use Rattle.home_assign.specs.Holders.{AreHolders}
use Rattle.home_assign.proofs.Holding.{holders_register, holders_slot}
use Rattle.home_assign.proofs.holders.add_holder.Goals as goal

pub returns-in_ok-push : goal.returns-in_ok-push
returns-in_ok-push c = λ homes size are.
    let same : c.args.home ≡ Register c.in-Register.register = c.in-Register.is in
    let P : Home → Type 0 = λ home. AreHolders (homes ++ home ∷ []) (length c.args.holders.now) (set c.args.holders.now c.in-Register.register c.push.new.self) in
    subst P (sym same) (holders_register homes c.in-Register.register (length c.args.holders.now) c.args.name c.args.holders.now _ c.push.new.self c.index-holders-register.result are (c.requires c.in-Register.register same) size refl c.in_ok-push.ensures.items)

pub returns-in_default : goal.returns-in_default
returns-in_default c = λ homes size are.
    let P : Home → Type 0 = λ home. AreHolders (homes ++ home ∷ []) (length c.args.holders.now) c.args.holders.now in
    subst P (sym c.in_default.is) (holders_slot homes c.in_default.field-0 (length c.args.holders.now) c.args.holders.now are)
