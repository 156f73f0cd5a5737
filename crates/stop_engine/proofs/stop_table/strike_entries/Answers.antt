use Rattle.std.proofs.Common.{◌≡◌, ◌≤◌, ◌-◌, length, sym, ◌∙◌, arith}
use Rattle.image_form.specs.Views.{viewed}
use Rattle.image_form.specs.RulesOfPlaces.{word_address}
use Rattle.stop_engine_view.proofs.PlacesByAddress.{IsWordOf, place-is_word, word-within}
use Rattle.stop_engine.proofs.StopTables.{entry-place, struck-all, struck-more}
use Rattle.stop_engine.proofs.stop_table.strike_entries.Goals as goal

pub place_at-place-requires : goal.place_at-place-requires
place_at-place-requires c =
    let number = entry-place (viewed c.args.image.now) c.loop-i.i c.function_at-function.result c.requires.image c.function_at-function.ensures in
    omega (arith, number.0, number.1)

pub word_of-requires : goal.word_of-requires
word_of-requires c =
    let p = c.place_at-place.result in
    (place-is_word (viewed c.args.image.now) (c.function_at-function.result.entry - 1) p c.requires.image c.place_at-place.ensures).starts

pub bounds-table-word_of : goal.bounds-table-word_of
bounds-table-word_of c =
    let m = viewed c.args.image.now in
    let p = c.place_at-place.result in
    let word : IsWordOf m p.address = place-is_word m (c.function_at-function.result.entry - 1) p c.requires.image c.place_at-place.ensures in
    let entries : length c.loop-i.table ≡ length m.code = c.loop-i.auto.table ∙ c.requires.entries in
    rw (c.word_of.ensures, entries) (word-within m p.address word)

pub loop-i-preserved : goal.loop-i-preserved
loop-i-preserved c = λ w.
    let m = viewed c.args.image.now in
    let entries : length c.loop-i.table ≡ length m.code = c.loop-i.auto.table ∙ c.requires.entries in
    rw c.word_of.ensures (struck-more m c.loop-i.table c.loop-i.i w c.function_at-function.result c.place_at-place.result c.requires.image c.function_at-function.ensures c.place_at-place.ensures entries ∙ c.loop-i.invariant w)

pub returns : goal.returns
returns c = λ w.
    let m = viewed c.args.image.now in
    let past : length m.functions ≤ c.loop-i.i = omega (arith, c.function_count-i-end.ensures.count, c.loop-i-test.false) in
    sym (struck-all m c.loop-i.i (word_address w) _ past) ∙ c.loop-i.invariant w
