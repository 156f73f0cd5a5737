use Rattle.std.proofs.Common.{◌∙◌, arith, inl, refl}
use Rattle.currency_writers.proofs.Entering.{some_not}
use Rattle.currency_writers.proofs.Marking.{all_done, all_next, kept_next, only_next, within_at}
use Rattle.currency_writers.proofs.marks.Marks.mark.Goals as goal

pub loop-place-init : goal.loop-place-init
loop-place-init g c = record { only = λ p some. inl some; kept = λ p some. some; all = λ k d lt. absurd (omega (arith, lt)); room = refl }

pub put-requires : goal.put-requires
put-requires g c = within_at c.args.places.now c.loop-place.place-index _ _ _ c.requires c.loop-place-test.true c.loop-place.invariant.room

pub loop-place-preserved : goal.loop-place-preserved
loop-place-preserved g c = record {
  only = only_next c.args.self.now c.loop-place.self c.put.new.self c.args.places.now c.loop-place.place-index _ c.args.value c.loop-place-test.true c.loop-place.invariant.only c.put.ensures.put;
  kept = λ p some. kept_next c.loop-place.self c.put.new.self _ c.args.value c.put.ensures.put p (c.loop-place.invariant.kept p some);
  all = all_next c.loop-place.self c.put.new.self c.args.places.now c.loop-place.place-index _ _ c.args.value c.loop-place-test.true c.put.ensures.put c.loop-place.invariant.all (some_not _ c.args.value c.put.ensures.there);
  room = c.put.ensures.room ∙ c.loop-place.invariant.room;
}

pub returns-clause-all : goal.returns-clause-all
returns-clause-all g c = all_done c.loop-place.self c.args.places.now c.loop-place.place-index (omega arith) c.loop-place.invariant.all
