use Rattle.std.proofs.Common.{◌∙◌, ◌≤◌, arith, get_or, refl, subst, sym}
use Rattle.std.proofs.lemmas.Option.{none-some}
use Rattle.currency_writers.specs.Marks.{room_of}
use Rattle.currency_writers.proofs.Flooding.{starts_next}
use Rattle.currency_writers.proofs.Flooding.{below_next, least_done, least_next, rest_next}
use Rattle.currency_writers.proofs.ways.Ways.find_starts.Goals as goal

pub loop-place-init : goal.loop-place-init
loop-place-init c = record {
  starts = λ p start at. absurd (none-some start (sym (c.requires.none p) ∙ at));
  shut = λ q some. absurd (some (c.requires.none q));
  below = λ j d le lt p start at. absurd (none-some start (sym (c.requires.none p) ∙ at));
  least = λ k d lt. absurd (omega (arith, lt));
  room = refl;
}

pub flood-requires : goal.flood-requires
flood-requires c = record {
  ways = c.requires.ways;
  shut = c.loop-place.invariant.shut;
  room = subst (λ n. room_of c.args.self.blocked.now ≤ n) (sym c.loop-place.invariant.room) c.requires.room;
}

pub loop-place-preserved : goal.loop-place-preserved
loop-place-preserved c =
    (let f = c.args.self in
    let old = c.loop-place.starts in
    let new = c.flood.new.told in
    let list = c.args.from.now in
    let k = c.loop-place.place-index in
    let known = c.loop-place.invariant in
    let said = c.in_ok-flood.ensures in
    let lt = c.loop-place-test.true in
    let below = below_next f old new (get_or list k 0) (get_or list k 0) (omega arith) said.told (known.below k 0 (omega arith) lt) in
    record {
      starts = starts_next f old new list k 0 lt known.starts said.told;
      shut = said.shut;
      below = rest_next f new list k 0 c.requires.ascend lt below;
      least = least_next f old new list k 0 (get_or list k 0) lt refl said.told said.all below known.least;
      room = said.room ∙ known.room;
    })

pub returns-clause-least : goal.returns-clause-least
returns-clause-least c = least_done c.args.self c.loop-place.starts c.args.from.now c.loop-place.place-index (omega arith) c.loop-place.invariant.least
