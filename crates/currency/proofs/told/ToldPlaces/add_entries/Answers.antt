use Rattle.std.proofs.Common.{arith, refl, ◌∙◌}
use Rattle.currency_hiding.specs.Found.{TellsFor}
use Rattle.currency.specs.Evident.{IsHidingOn}
use Rattle.currency_notes.proofs.Lists.{get_among}
use Rattle.currency.proofs.Entries.{entries_done, entries_first, entry_next}
use Rattle.currency.proofs.Hiding.{new_none, new_one}
use Rattle.currency.proofs.told.ToldPlaces.add_entries.Goals as goal

pub loop-one-init : goal.loop-one-init
loop-one-init c = record {
  told = entries_first c.args.self.now c.args.var c.args.unshown.now;
  hiding = new_none (IsHidingOn (λ p cause. TellsFor c.args.teller.now c.args.function.now p cause) c.args.var) c.args.self.now;
  count = refl;
}

pub told_of-told-requires-clause-ready : goal.told_of-told-requires-clause-ready
told_of-told-requires-clause-ready c =
    (let one = c.one-item.result in
    λ none. c.requires.ready one (get_among c.args.unshown.now c.loop-one.one-index one c.loop-one-test.true c.one-item.is) none)

pub told_of-told-requires-clause-sourced : goal.told_of-told-requires-clause-sourced
told_of-told-requires-clause-sourced c =
    (let one = c.one-item.result in
    λ l last. c.requires.can.sourced one l (get_among c.args.unshown.now c.loop-one.one-index one c.loop-one-test.true c.one-item.is) last)

pub told_of-told-requires-clause-some : goal.told_of-told-requires-clause-some
told_of-told-requires-clause-some c =
    (let one = c.one-item.result in
    λ none. c.requires.can.some one (get_among c.args.unshown.now c.loop-one.one-index one c.loop-one-test.true c.one-item.is) none)

pub add-requires : goal.add-requires
add-requires c =
    (let one = c.one-item.result in
    let among = get_among c.args.unshown.now c.loop-one.one-index one c.loop-one-test.true c.one-item.is in
    let low = c.requires.can.placed one among in
    let count = c.loop-one.invariant.count in
    omega (arith, low, count))

pub loop-one-preserved : goal.loop-one-preserved
loop-one-preserved c =
    (let old = c.args.self.now in
    let mid = c.loop-one.self in
    let new = c.add.new.self in
    let one = c.one-item.result in
    let known = c.loop-one.invariant in
    let added = c.in_ok-add.ensures in
    record {
      told = entry_next old mid new c.args.var c.args.unshown.now c.loop-one.one-index one c.told_of-told.result c.loop-one-test.true c.one-item.is known.told added.told c.told_of-told.ensures.recipe;
      hiding = new_one (λ p cause. TellsFor c.args.teller.now c.args.function.now p cause) old mid new one.place.0 c.args.var c.told_of-told.result known.hiding added.told c.told_of-told.ensures.hiding;
      count = added.count ∙ known.count;
    })

pub returns-clause-told : goal.returns-clause-told
returns-clause-told c = entries_done c.args.self.now c.loop-one.self c.args.var c.args.unshown.now c.loop-one.one-index (omega arith) c.loop-one.invariant.told
