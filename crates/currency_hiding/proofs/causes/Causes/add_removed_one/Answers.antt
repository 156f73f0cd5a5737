use Rattle.std.proofs.Common.{[], ◌∷◌, sym}
use Rattle.currency_writers.proofs.Order.{no_later_same}
use Rattle.currency_hiding.proofs.Asked.{unmarked}
use Rattle.currency_hiding.proofs.Found.{removed_hides}
use Rattle.currency_hiding.proofs.causes.Causes.add_removed_one.Goals as goal

pub add-requires : goal.add-requires
add-requires c =
    (let q = c.args.question in
    record {
      asked = c.requires.asked;
      hides = removed_hides q.changes.now q.search.now q.function.now c.requires.asked c.args.change.now c.requires.removed (sym c.if-not-assigns.ensures) (unmarked c.has.result _ c.has.ensures c.if-has.false);
      next = c.requires.next;
      causes = c.requires.causes;
    })

pub returns-clause-next : goal.returns-clause-next
returns-clause-next c = c.in_ok-add.ensures.next (0 ∷ c.args.change.now.number ∷ []) (no_later_same (0 ∷ c.args.change.now.number ∷ [])) c.requires.next
