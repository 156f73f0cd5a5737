use Rattle.std.proofs.Common.{◌≡◌, get_or, false, slice_set, sym, subst, true, rules}
use Rattle.rv_emit_plan.specs.Orders.{placing_view, Grows}
use Rattle.rv_emit_plan.proofs.Growing.{grows_by}
use Rattle.rv_emit_plan.proofs.placing.Placing.place.Goals as goal

pub returns-in_ok-push-clause-grown : goal.returns-in_ok-push-clause-grown
returns-in_ok-push-clause-grown c =
    let new : get_or c.args.self.now.is_placed.items c.args.block true ≡ false = search rules in
    subst (λ o. Grows (placing_view c.args.self.now) (record { is_placed = slice_set c.args.self.now.is_placed.items c.args.block true; order = o })) (sym c.in_ok-push.ensures.items)
    (grows_by c.args.block (placing_view c.args.self.now) new)
