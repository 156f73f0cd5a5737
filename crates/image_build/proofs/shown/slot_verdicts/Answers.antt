use Rattle.std.proofs.Common.{◌≡◌, ◌<◌, get_or, length, subst, arith}
use Rattle.currency.specs.Visible.{sights_from}
use Rattle.image_build.proofs.OnRows.{shown_none, sights_done, sights_more, sights_none}
use Rattle.image_build.proofs.shown.slot_verdicts.Goals as goal

pub loop-row-init : goal.loop-row-init
loop-row-init c = record { visible = sights_none c.new-rows.result.items c.args.places.now.rows.items c.new-rows.ensures.items; shown = shown_none c.new-rows.result.items c.new-rows.ensures.items }

pub loop-row-preserved : goal.loop-row-preserved
loop-row-preserved c =
    let all = c.args.places.now.rows.items in
    let k = c.loop-row.row-index in
    let p = c.loop-row.place in
    let row = c.row-item.result in
    let lt : k < length all = subst (λ xs. k < length xs) c.deref-row-items.ensures.value c.loop-row-test.true in
    let is : row ≡ get_or all k row = subst (λ xs. row ≡ get_or xs k row) c.deref-row-items.ensures.value c.row-item.is in
    let rows = c.loop-row.rows.items in
    let new = c.push_place.new.rows.items in
    let inv = c.loop-row.invariant in
    record {
      visible = sights_more p c.saturating_add-place.result rows new all k row c.deref.result.now (sights_from 1 all) lt is c.deref.ensures.value c.in_ok-push_place.ensures.visible c.saturating_add-place.ensures inv.visible;
      shown = c.in_ok-push_place.ensures.shown inv.shown;
    }

pub returns-clause-visible : goal.returns-clause-visible
returns-clause-visible c = sights_done c.loop-row.place c.loop-row.rows.items c.args.places.now.rows.items c.loop-row.row-index (sights_from 1 c.args.places.now.rows.items) (omega arith) c.loop-row.invariant.visible

pub returns-clause-shown : goal.returns-clause-shown
returns-clause-shown c = c.loop-row.invariant.shown
