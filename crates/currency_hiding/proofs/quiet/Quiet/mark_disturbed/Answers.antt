use Rattle.std.proofs.Common.{◌∙◌, arith}
use Rattle.currency_hiding.proofs.Asked.{same_room}
use Rattle.currency_hiding.proofs.Barring.{disturbed_all, disturbed_only, list_within}
use Rattle.currency_hiding.proofs.quiet.Quiet.mark_disturbed.Goals as goal

pub mark_homes-requires : goal.mark_homes-requires
mark_homes-requires c = record { writers = c.requires.asked.on.function.writers; none = c.forget.ensures.none }

pub mark-requires : goal.mark-requires
mark-requires c =
    (let forget = c.forget.ensures.room in
    let homes = c.mark_homes.ensures.room in
    let room = c.requires.room in
    list_within c.args.question.search.now c.requires.asked.search _ (omega (arith, forget, homes, room)) c.assigning.result.now c.assigning.ensures.places)

pub returns-clause-marked : goal.returns-clause-marked
returns-clause-marked c = λ p lt disturbed.
    disturbed_all c.args.question.search.now c.args.question.function.now c.mark_homes.new.marks c.mark.new.self c.assigning.result.now c.assigning.ensures.places _ c.mark_homes.ensures.marked c.mark.ensures.kept c.mark.ensures.all p (same_room p _ _ c.forget.ensures.room lt) disturbed

pub returns-clause-only : goal.returns-clause-only
returns-clause-only c = disturbed_only c.args.question.search.now c.args.question.function.now c.mark_homes.new.marks c.mark.new.self c.assigning.result.now c.assigning.ensures.places c.mark_homes.ensures.only c.mark.ensures.only

pub returns-clause-room : goal.returns-clause-room
returns-clause-room c = c.mark.ensures.room ∙ c.mark_homes.ensures.room ∙ c.forget.ensures.room
