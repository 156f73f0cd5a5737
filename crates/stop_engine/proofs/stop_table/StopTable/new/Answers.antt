use Rattle.std.proofs.Common.{◌≡◌, length, replicate, ◌∙◌, arith, rules}
use Rattle.image_form.specs.Views.{viewed}
use Rattle.stop_engine.proofs.StopTables.{tells_stops-struck, written-whole}
use Rattle.stop_engine.proofs.stop_table.StopTable.new.Goals as goal

pub invariant_of-result : goal.invariant_of-result
invariant_of-result c =
    let n = c.in_ok-places.places.len in
    let first = c.deref_mut.ensures.len in
    let second = c.deref_mut-2.ensures.len in
    let entered : n ≡ length c.enter_places.new.table = omega (arith, c.enter_places.auto.table, first) in
    let struck : n ≡ length c.strike_entries.new.table = omega (arith, c.strike_entries.auto.table, second) in
    let zeros : c.deref_mut.result.now ≡ replicate c.code_count.result 0 = search rules in
    let kept = c.deref_mut-2.ensures.value ∙ written-whole n c.enter_places.new.table _ entered in
    rw (written-whole n c.strike_entries.new.table _ struck)
    (tells_stops-struck (viewed c.args.image.now) c.code_count.result c.deref_mut.result.now c.enter_places.new.table c.strike_entries.new.table c.requires zeros c.enter_places.ensures (λ w. rw (← kept) (c.strike_entries.ensures w)))
