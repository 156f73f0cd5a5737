use Rattle.std.proofs.Common.{◌∙◌, List, ap, refl, subst}
use Rattle.std.specs.Prelude.{All}
use Rattle.debug_records.specs.declared.change.Change.{Change}
use Rattle.currency_writers.specs.Marks.{room_of}
use Rattle.currency_hiding.specs.Found.{IsFunction, IsOwn}
use Rattle.currency_hiding.proofs.Asked.{AreOwnOnly, function_on, turned}
use Rattle.currency_hiding.proofs.function.Function.turn_to.Goals as goal

pub mark_written-requires : goal.mark_written-requires
mark_written-requires c = function_on c.args.self.now _ refl refl refl refl c.requires.function

pub mark_own-requires : goal.mark_own-requires
mark_own-requires c = (let mid = c.mark_written.ensures in function_on c.args.self.now c.mark_written.new.self mid.writers mid.copies mid.room (ap room_of mid.own) c.requires.function)

pub returns-clause-function : goal.returns-clause-function
returns-clause-function c =
    (let mid = c.mark_written.ensures in
    let last = c.mark_own.ensures in
    function_on c.args.self.now c.mark_own.new.self (last.writers ∙ mid.writers) (last.copies ∙ mid.copies) (ap room_of last.written ∙ mid.room) (last.room ∙ ap room_of mid.own) c.requires.function)

pub returns-clause-on : goal.returns-clause-on
returns-clause-on c =
    (let mid = c.mark_written.ensures in
    let last = c.mark_own.ensures in
    let new = c.mark_own.new.self in
    let is : IsFunction new = function_on c.args.self.now new (last.writers ∙ mid.writers) (last.copies ∙ mid.copies) (ap room_of last.written ∙ mid.room) (last.room ∙ ap room_of mid.own) c.requires.function in
    turned c.args.changes.now c.args.self.now c.mark_written.new.self new c.args.scalar c.args.var.0 c.in_ok-moved.moved.items is c.requires.scalar mid.writers mid.scalar mid.marked mid.only last.writers
    last.scalar last.written c.in_ok-moved.ensures (subst (λ (l : List Change). All (λ (d : Change). IsOwn new d.place.0) l) c.deref.ensures.value last.marked) (subst (λ (l : List Change). AreOwnOnly new l) c.deref.ensures.value last.only))
