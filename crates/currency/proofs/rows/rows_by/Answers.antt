use Rattle.std.proofs.Common.{◌≡◌, ◌+◌, ◌<◌, List, Some, ap, arith, get_or, length, subst, sym, ◌∙◌}
use Rattle.std.proofs.lemmas.Option.{slice_get-get_or}
use Rattle.debug_records.specs.declared.change.Var as declared-var
use Rattle.currency.specs.declared.telling.ToldVariable as declared-variable
use Rattle.currency.specs.Telling.{AreBelow, AreTold, told_at}
use Rattle.currency.specs.Visible.{sights_from}
use Rattle.currency.proofs.OnRows.{rows_more, sights_done, sights_more}
use Rattle.currency.proofs.rows.rows_by.Goals as goal

pub loop-row-preserved : goal.loop-row-preserved
loop-row-preserved c =
    let table = c.args.places.now in
    let told = c.args.told.now in
    let all = table.rows.items in
    let k = c.loop-row.row-index in
    let p = c.loop-row.place in
    let row = c.row-item.result in
    let lt : k < length all = subst (λ xs. k < length xs) c.deref-row-items.ensures.value c.loop-row-test.true in
    let is : row ≡ get_or all k row = subst (λ xs. row ≡ get_or xs k row) c.deref-row-items.ensures.value c.row-item.is in
    let rows = c.loop-row.rows.items in
    let new = c.push_place.new.rows.items in
    let inv = c.loop-row.invariant in
    let pushed = c.in_ok-push_place.ensures in
    let more : AreTold (told_at told (k + 1)) (k + 1) row.visible.items rows new =
    subst (λ n. AreTold (told_at told n) n row.visible.items rows new) inv.place
    (subst (λ (vars : List declared-var.Var). AreTold (told_at told p) p vars rows new) c.deref.ensures.value
    (subst (λ (l : List declared-variable.ToldVariable). AreTold l p c.deref.result.now rows new) c.at.ensures pushed.told)) in
    record {
      place = (let here = inv.place in let few = c.requires.few in let next = c.saturating_add-place.ensures in omega (arith, here, few, next, lt));
      sights = sights_more p c.saturating_add-place.result rows new all k row c.deref.result.now (sights_from 1 all) lt is c.deref.ensures.value pushed.sights c.saturating_add-place.ensures inv.sights;
      told = rows_more table told k row rows new (slice_get-get_or all k row lt ∙ ap Some (sym is)) inv.told more;
      slots = c.push_place.auto.slots ∙ inv.slots;
    }

pub returns-clause-told : goal.returns-clause-told
returns-clause-told c = c.loop-row.invariant.told

pub returns-clause-sights : goal.returns-clause-sights
returns-clause-sights c = sights_done c.loop-row.place c.loop-row.rows.items c.args.places.now.rows.items c.loop-row.row-index (sights_from 1 c.args.places.now.rows.items) (omega arith) c.loop-row.invariant.sights

pub push_place-requires : goal.push_place-requires
push_place-requires c = subst (λ n. AreBelow n c.at.result.now) (sym c.loop-row.invariant.slots) (subst (λ l. AreBelow (length c.args.slots.now) l) (sym c.at.ensures) (c.requires.below c.loop-row.place))
