use Rattle.std.proofs.Common.{◌∙◌, arith, refl}
use Rattle.currency_writers.proofs.Flooding.{come_on, come_within, told_on, told_same}
use Rattle.currency_writers.proofs.Flooding.{more_none, more_on, next_told, told_more}
use Rattle.currency_writers.proofs.ways.Ways.go_on.Goals as goal

pub loop-place-init : goal.loop-place-init
loop-place-init g c = record {
  told = told_same c.args.self c.args.from c.args.value c.args.told.now;
  ahead = c.requires.ahead;
  more = more_none c.args.self c.args.told.now c.args.ahead.now.items;
  next = λ k d lt. absurd (omega (arith, lt));
  room = refl;
}

pub come_to-requires : goal.come_to-requires
come_to-requires g c = record {
  comes = come_on c.args.self c.args.from c.args.next c.get-place-items.result.now c.loop-place.place-index _ c.requires.ways c.requires.next c.get-place-items.ensures c.loop-place-test.true;
  room = come_within c.args.self c.args.next c.get-place-items.result.now c.loop-place.place-index _ _ _ c.requires.ways c.get-place-items.ensures c.requires.room c.loop-place-test.true c.loop-place.invariant.room;
  ahead = c.loop-place.invariant.ahead;
}

pub loop-place-preserved : goal.loop-place-preserved
loop-place-preserved g c = record {
  told = told_on c.args.self c.args.from c.args.value c.args.told.now c.loop-place.told c.come_to.new.told c.loop-place.invariant.told c.in_ok-come_to.ensures.told;
  ahead = c.in_ok-come_to.ensures.ahead;
  more = more_on c.args.self c.args.told.now c.loop-place.told c.come_to.new.told c.args.ahead.now.items c.loop-place.ahead.items c.come_to.new.ahead.items c.loop-place.invariant.more c.in_ok-come_to.ensures.more;
  next = told_more c.args.self c.args.from c.args.value c.loop-place.told c.come_to.new.told c.get-place-items.result.now c.loop-place.place-index _ c.loop-place-test.true c.in_ok-come_to.ensures.told c.loop-place.invariant.next c.in_ok-come_to.ensures.there;
  room = c.in_ok-come_to.ensures.room ∙ c.loop-place.invariant.room;
}

pub returns-clause-next : goal.returns-clause-next
returns-clause-next g c = next_told c.args.self c.args.next c.loop-place.told c.get-place-items.result.now c.loop-place.place-index c.requires.ways c.get-place-items.ensures (omega arith) c.loop-place.invariant.next
