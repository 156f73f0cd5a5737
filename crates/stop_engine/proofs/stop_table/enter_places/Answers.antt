use Rattle.std.proofs.Common.{◌≡◌, ◌<◌, ◌≤◌, length, ◌∙◌, sym, refl, arith}
use Rattle.std.proofs.lemmas.Option.{slice_get_within}
use Rattle.image_form.specs.Views.{viewed}
use Rattle.image_form.specs.RulesOfPlaces.{word_address}
use Rattle.stop_engine_tables.proofs.Records.{record_at}
use Rattle.stop_engine_view.proofs.PlacesByAddress.{IsWordOf, entered-all, entered-more, place-is_word, word-within}
use Rattle.stop_engine.proofs.stop_table.enter_places.Goals as goal

pub loop-i-init : goal.loop-i-init
loop-i-init c = λ w. refl

pub word_of-requires : goal.word_of-requires
word_of-requires c = (place-is_word (viewed c.args.image.now) c.loop-i.i c.place_at-place.result c.requires.image c.place_at-place.ensures).starts

pub bounds-table-word_of : goal.bounds-table-word_of
bounds-table-word_of c =
    let m = viewed c.args.image.now in
    let p = c.place_at-place.result in
    let word : IsWordOf m p.address = place-is_word m c.loop-i.i p c.requires.image c.place_at-place.ensures in
    let entries : length c.loop-i.table ≡ length m.code = c.loop-i.auto.table ∙ c.requires.entries in
    rw (c.word_of.ensures, entries) (word-within m p.address word)

pub loop-i-preserved : goal.loop-i-preserved
loop-i-preserved c = λ w.
    let m = viewed c.args.image.now in
    let i = c.loop-i.i in
    let p = c.place_at-place.result in
    let within : i < length m.places = slice_get_within m.places i p c.place_at-place.ensures in
    let entries : length c.loop-i.table ≡ length m.code = c.loop-i.auto.table ∙ c.requires.entries in
    rw (c.word_of.ensures, record_at m.places i p p c.place_at-place.ensures) (entered-more m c.loop-i.table i w p c.requires.image within entries ∙ c.loop-i.invariant w)

pub returns : goal.returns
returns c = λ w.
    let m = viewed c.args.image.now in
    let past : length m.places ≤ c.loop-i.i = omega (arith, c.place_count-i-end.ensures.count, c.loop-i-test.false) in
    sym (entered-all m c.loop-i.i (word_address w) _ past) ∙ c.loop-i.invariant w
