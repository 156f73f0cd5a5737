use Rattle.std.proofs.Common.{◌∙◌, arith, inl, inr, refl}
use Rattle.currency_writers.specs.Marks.{room_of}
use Rattle.currency_hiding.proofs.Asked.{marked_all, marked_next, same_room}
use Rattle.currency_hiding.proofs.Barring.{IsOther}
use Rattle.currency_hiding.proofs.quiet.mark_others.Goals as goal

pub loop-write-init : goal.loop-write-init
loop-write-init c = record { only = λ p some. inl some; kept = λ p some. some; marked = λ k d lt. absurd (omega (arith, lt)); room = refl }

pub loop-write-preserved : goal.loop-write-preserved
loop-write-preserved c = record {
  only = λ p some. elim (c.mark_other.ensures.only p some) [ inl e ↦ c.loop-write.invariant.only p e | inr is ↦ inr is ];
  kept = λ p some. c.mark_other.ensures.kept p (c.loop-write.invariant.kept p some);
  marked = marked_next c.args.writers.now (λ y. IsOther c.args.writers.now c.args.scalar y) (room_of c.args.marks.now) c.loop-write.marks c.mark_other.new.marks c.of_home-write-items.result.now c.loop-write.write-index _ c.loop-write-test.true c.mark_other.ensures.kept
      (λ z at place is lt. c.mark_other.ensures.there z at place is.0 is.1 (same_room _ _ _ c.loop-write.invariant.room lt)) c.loop-write.invariant.marked;
  room = c.mark_other.ensures.room ∙ c.loop-write.invariant.room;
}

pub returns-clause-marked : goal.returns-clause-marked
returns-clause-marked c = λ p y w writes other shared lt.
    marked_all c.args.writers.now c.args.scalar (λ y. IsOther c.args.writers.now c.args.scalar y) (room_of c.args.marks.now) c.loop-write.marks c.of_home-write-items.result.now c.loop-write.write-index c.requires c.of_home-write-items.ensures (omega arith) (λ y is. is.1) c.loop-write.invariant.marked p y w writes (other, shared) lt
