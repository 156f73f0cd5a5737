use Rattle.std.proofs.Common.{◌∙◌, arith, subst, sym}
use Rattle.debug_records.specs.declared.change.Kind.TheVariants.{Removed}
use Rattle.currency_hiding.specs.Changes.{AreFound}
use Rattle.currency_hiding.proofs.Asked.{same_room}
use Rattle.currency_hiding.proofs.Barring.{assigned_within, barred_all, barred_only}
use Rattle.currency_hiding.proofs.Coming.{are_same}
use Rattle.currency_hiding.proofs.quiet.Quiet.mark_barred.Goals as goal

pub returns-clause-marked : goal.returns-clause-marked
returns-clause-marked c = λ p assigns barred.
    (let q = c.args.question in
    let list = c.deref.result.now in
    let found : AreFound q.changes.now q.search.now.flow.var.0 Removed list = subst (λ v. AreFound q.changes.now v Removed list) c.var.ensures (are_same q.changes.now c.var.result.0 Removed c.in_ok-taken.taken.items list (sym c.deref.ensures.value) c.in_ok-taken.ensures) in
    let forget = c.forget.ensures.room in
    let others = c.mark_others.ensures.room in
    let room = c.requires.room in
    barred_all q.changes.now q.search.now q.function.now c.mark_others.new.marks c.mark_taken.new.marks list found _ (λ p y w writes other shared lt. c.mark_others.ensures.marked p y w writes other shared (same_room p _ _ (sym others) lt)) c.mark_taken.ensures.kept c.mark_taken.ensures.marked p
    (assigned_within q.search.now c.requires.asked.search _ (omega (arith, forget, others, room)) p assigns) barred)

pub returns-clause-only : goal.returns-clause-only
returns-clause-only c =
    (let q = c.args.question in
    let list = c.deref.result.now in
    let found : AreFound q.changes.now q.search.now.flow.var.0 Removed list = subst (λ v. AreFound q.changes.now v Removed list) c.var.ensures (are_same q.changes.now c.var.result.0 Removed c.in_ok-taken.taken.items list (sym c.deref.ensures.value) c.in_ok-taken.ensures) in
    barred_only q.changes.now q.search.now q.function.now c.mark_others.new.marks c.mark_taken.new.marks list found c.forget.new.self c.forget.ensures.none c.mark_others.ensures.only c.mark_taken.ensures.only)

pub returns-clause-room : goal.returns-clause-room
returns-clause-room c = c.mark_taken.ensures.room ∙ c.mark_others.ensures.room ∙ c.forget.ensures.room
