use Rattle.std.proofs.Common.{◌∙◌, arith, inl, refl}
use Rattle.currency_writers.specs.Marks.{room_of}
use Rattle.currency_hiding.proofs.Asked.{same_room}
use Rattle.currency_hiding.proofs.Barring.{taken_all, taken_more, taken_next}
use Rattle.currency_hiding.proofs.quiet.mark_taken.Goals as goal

pub loop-change-init : goal.loop-change-init
loop-change-init c = record { only = λ p some. inl some; kept = λ p some. some; marked = λ k d lt. absurd (omega (arith, lt)); room = refl }

pub loop-change-preserved : goal.loop-change-preserved
loop-change-preserved c =
    (let old = c.loop-change.marks in
    let new = c.mark_one.new.marks in
    let list = c.args.taken.now in
    let k = c.loop-change.change-index in
    let known = c.loop-change.invariant in
    let said = c.mark_one.ensures in
    record {
      only = taken_next old new list k _ c.loop-change-test.true c.args.marks.now said.only known.only;
      kept = λ p some. said.kept p (known.kept p some);
      marked = taken_more old new list k _ c.loop-change-test.true (room_of c.args.marks.now) said.kept (λ lt. said.there (same_room _ _ _ known.room lt)) known.marked;
      room = said.room ∙ known.room;
    })

pub returns-clause-marked : goal.returns-clause-marked
returns-clause-marked c = taken_all (room_of c.args.marks.now) c.loop-change.marks c.args.taken.now c.loop-change.change-index (omega arith) c.loop-change.invariant.marked
