use Rattle.std.proofs.Common.{◌≡◌, ◌<◌, List, ◌∷◌, ◌++◌, [], length, ℕ, Some, true, false, sym, subst, ap, ◌∙◌, arith}
use Rattle.std.specs.Prelude.{slice_get, slice_set}
use Rattle.std.proofs.lemmas.Option.{slice_get-get_or}
use Rattle.copy_pass_rule.specs.Order.{IsAdded, put, stood}
use Rattle.copy_pass_rule.proofs.order.add.Goals.{else-label-has-via-then-label-has+else-not-has-label, else-label-has-via-else-label-has}
use Rattle.copy_pass_rule.proofs.order.add.Goals as goal

pub returns-in_ok-push : goal.returns-in_ok-push
returns-in_ok-push c =
    subst (λ (xs : List ℕ). IsAdded c.args.label c.args.order.now.items c.args.has.now xs (slice_set c.args.has.now c.args.label true)) (sym c.in_ok-push.ensures.items)
    (put (slice_get-get_or c.args.has.now c.args.label false c.if-label-has.true ∙ ap Some c.if-not-has-label.true))

pub returns-else-label-has : goal.returns-else-label-has
returns-else-label-has c = stood (λ lt. elim c.else-label-has.branch [
  | else-label-has-via-then-label-has+else-not-has-label w ↦ slice_get-get_or c.args.has.now c.args.label false lt ∙ ap Some w.if-not-has-label.false
  | else-label-has-via-else-label-has w ↦ absurd (omega (arith, lt, w.if-label-has.false))
])
