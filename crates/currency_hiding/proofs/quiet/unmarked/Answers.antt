use Rattle.std.proofs.Common.{ℕ, ◌+◌, ap, arith, subst, sym, ◌∙◌}
use Rattle.std.specs.Global.{Vec}
use Rattle.currency_hiding.proofs.Asked.{unmarked}
use Rattle.currency_hiding.proofs.QuietLeft.{AreLeft, left_all, left_push, left_same}
use Rattle.currency_hiding.proofs.quiet.unmarked.Goals.{then-not-has+in_ok-push, else-not-has}
use Rattle.currency_hiding.proofs.quiet.unmarked.Goals as goal

pub loop-place-preserved : goal.loop-place-preserved
loop-place-preserved c =
    (let places = c.args.places.now in
    let marks = c.args.marks.now in
    let k = c.loop-place.place-index in
    let left = c.loop-place.left.items in
    elim c.if-not-has.branch [
      | then-not-has+in_ok-push w ↦
          left_push places marks left c.if-not-has.left.items k _ c.requires c.loop-place-test.true (unmarked c.has.result _ c.has.ensures w.if-not-has.true) (ap (λ (v : Vec ℕ). v.items) w.left-is ∙ w.in_ok-push.ensures.items) c.loop-place.invariant
      | else-not-has w ↦ subst (λ (v : Vec ℕ). AreLeft places marks v.items (k + 1)) (sym w.left-is) (left_same places marks left k _ c.loop-place-test.true (c.has.ensures.0 w.if-not-has.false) c.loop-place.invariant)
    ])

pub returns-clause-all : goal.returns-clause-all
returns-clause-all c = left_all c.args.places.now c.args.marks.now c.loop-place.left.items c.loop-place.place-index (omega arith) c.loop-place.invariant
