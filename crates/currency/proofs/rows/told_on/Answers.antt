use Rattle.std.proofs.Common.{◌-◌, ◌<◌, Some, ap, arith, length, sym, ◌∙◌}
use Rattle.std.proofs.lemmas.Option.{slice_get-get_or}
use Rattle.currency_notes.proofs.Lists.{get_among}
use Rattle.currency.proofs.OnRows.{other_by_slot}
use Rattle.currency.proofs.rows.told_on.Goals as goal

pub returns-then-one-var : goal.returns-then-one-var
returns-then-one-var c = (get_among c.args.told.now (c.slot_of-number.result - 1) c.index-told-number.result (omega arith) c.index-told-number.is, c.if-one-var.true)

pub returns-else-one-var : goal.returns-else-one-var
returns-else-one-var c =
    let told = c.args.told.now in
    let number = c.slot_of-number.result in
    let one = c.index-told-number.result in
    let lt : number - 1 < length told = omega arith in
    other_by_slot told c.args.slots.now c.args.var number one c.requires.slots c.slot_of-number.ensures (slice_get-get_or told (number - 1) one lt ∙ ap Some (sym c.index-told-number.is)) c.if-one-var.false
