use Rattle.std.proofs.Common.{◌∙◌, arith, refl}
use Rattle.currency_writers.specs.Writers.{HaveOneHome}
use Rattle.currency_writers.specs.Marks.{room_of}
use Rattle.currency_hiding.proofs.Asked.{bare_next, marked_all, marked_next, same_room}
use Rattle.currency_hiding.proofs.function.mark_homes.Goals as goal

pub loop-write-init : goal.loop-write-init
loop-write-init c = record { bare = λ p some. absurd (some (c.requires.none p)); marked = λ k d lt. absurd (omega (arith, lt)); room = refl }

pub loop-write-preserved : goal.loop-write-preserved
loop-write-preserved c = record {
  bare = bare_next c.args.writers.now c.args.scalar c.loop-write.marks c.mark_home.new.marks c.mark_home.ensures.only c.loop-write.invariant.bare;
  marked = marked_next c.args.writers.now (λ y. HaveOneHome c.args.writers.now y c.args.scalar) (room_of c.args.marks.now) c.loop-write.marks c.mark_home.new.marks c.of_home-write-items.result.now c.loop-write.write-index _ c.loop-write-test.true c.mark_home.ensures.kept
      (λ z at place shared lt. c.mark_home.ensures.there z at place shared (same_room _ _ _ c.loop-write.invariant.room lt)) c.loop-write.invariant.marked;
  room = c.mark_home.ensures.room ∙ c.loop-write.invariant.room;
}

pub returns-clause-marked : goal.returns-clause-marked
returns-clause-marked c =
    marked_all c.args.writers.now c.args.scalar (λ y. HaveOneHome c.args.writers.now y c.args.scalar) (room_of c.args.marks.now) c.loop-write.marks c.of_home-write-items.result.now c.loop-write.write-index c.requires.writers c.of_home-write-items.ensures (omega arith) (λ y shared. shared) c.loop-write.invariant.marked
