use Rattle.std.proofs.Common.{◌≡◌, ◌+◌, Some, ap, arith, get_or, refl, subst, sym, ◌∙◌}
use Rattle.std.specs.Prelude.{slice_set}
use Rattle.std.proofs.lemmas.List.{length-set}
use Rattle.std.proofs.lemmas.Option.{slice_get-get_or}
use Rattle.currency_notes.proofs.Lists.{get_among}
use Rattle.currency.specs.declared.telling.ToldVariable as declared-variable
use Rattle.currency.proofs.OnRows.{AreSlottedTo, slot_next, slots_all}
use Rattle.currency.proofs.rows.put_slots.Goals as goal

pub loop-k-init : goal.loop-k-init
loop-k-init c = record { slotted = λ j t lt. absurd (omega (arith, lt)); count = refl }

pub bounds-slots-var : goal.bounds-slots-var
bounds-slots-var c =
    let told = c.args.told.now in
    let k = c.loop-k.k in
    let one = c.index-told-k.result in
    let low = c.requires one (get_among told k one c.loop-k-test.true c.index-told-k.is) in
    let count = c.loop-k.invariant.count in
    let same : (get_or told k one).var.0 ≡ one.var.0 = ap (λ (z : declared-variable.ToldVariable). z.var.0) (sym c.index-told-k.is) in
    omega (arith, low, count, same)

pub loop-k-preserved : goal.loop-k-preserved
loop-k-preserved c =
    let told = c.args.told.now in
    let k = c.loop-k.k in
    let one = c.index-told-k.result in
    let inv = c.loop-k.invariant in
    let low = c.requires one (get_among told k one c.loop-k-test.true c.index-told-k.is) in
    let count = inv.count in
    let same : (get_or told k one).var.0 ≡ one.var.0 = ap (λ (z : declared-variable.ToldVariable). z.var.0) (sym c.index-told-k.is) in
    record {
      slotted = subst (λ v. AreSlottedTo told (slice_set c.loop-k.slots v (k + 1)) (k + 1)) (sym same)
          (slot_next told c.loop-k.slots k one (slice_get-get_or told k one c.loop-k-test.true ∙ ap Some (sym c.index-told-k.is)) (omega (arith, low, count)) inv.slotted);
      count = length-set c.loop-k.slots (get_or told k one).var.0 (k + 1) ∙ count;
    }

pub returns : goal.returns
returns c = slots_all c.args.told.now c.loop-k.slots c.loop-k.k (omega arith) c.loop-k.invariant.slotted
