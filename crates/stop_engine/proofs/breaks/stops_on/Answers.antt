use Rattle.std.proofs.Common.{◌≡◌, ◌≢◌, ℕ, ◌+◌, ◌<◌, ◌≤◌, ◌++◌, Some, [], length, drop, get_or, map, refl, sym, ap, subst, ◌∙◌, append-nil, arith}
use Rattle.std.specs.Global.{Global}
use Rattle.std.specs.Prelude.{Vec, slice_get, slice_index_or}
use Rattle.std.proofs.lemmas.Option.{slice_get_within}
use Rattle.debug_records.specs.declared.change.Place.{Place}
use Rattle.image_form.specs.Form.{Form}
use Rattle.image_form.specs.Views.{viewed}
use Rattle.image_form.specs.declared.tables.Place as row
use Rattle.stop_engine_tables.proofs.Records.{record_at}
use Rattle.stop_engine.specs.Breaks.{stops_on}
use Rattle.stop_engine.proofs.StopsByLine.{stops-behind, stops-end, stops-more, stops-other}
use Rattle.stop_engine.proofs.breaks.stops_on.Goals as goal
use Rattle.stop_engine.proofs.breaks.stops_on.Goals.{then-is_stop_on+in_ok-push, else-is_stop_on}

pub loop-index-init : goal.loop-index-init
loop-index-init c =
    let m = c.args.table.now in
    let start = c.first_on-index.result in
    let same : viewed c.image-image.result ≡ m = c.image-image.ensures in
    let before = subst (λ (f : Form). (k : ℕ) (d : row.Place) → k < start → k < length f.places → (slice_index_or f.places k d).line < c.args.line) same c.first_on-index.ensures.before in
    let behind = subst (λ (f : Form). (k : ℕ) (d : row.Place) → start ≤ k → k < length f.places → c.args.line ≤ (slice_index_or f.places k d).line) same c.first_on-index.ensures.behind in
    let sums : start + 1 ≡ 1 + start = omega arith in
    (behind, rw c.new-on_line.ensures.items (ap (λ n. stops_on m c.args.line n (drop start m.places)) sums ∙ stops-behind m c.args.line start 1 m.places before))

pub returns-then-place-line : goal.returns-then-place-line
returns-then-place-line c =
    let m = c.args.table.now in
    let i = c.loop-index.index in
    let place = c.place_at-place.result in
    let got : slice_get m.places i ≡ Some place = subst (λ (f : Form). slice_get f.places i ≡ Some place) c.image-image.ensures c.place_at-place.ensures in
    let within = slice_get_within m.places i place got in
    let same : place ≡ get_or m.places i place = record_at m.places i place place got in
    let other : (get_or m.places i place).line ≢ c.args.line = subst (λ (q : row.Place). q.line ≢ c.args.line) same c.if-place-line.true in
    let none : stops_on m c.args.line (i + 1) (drop i m.places) ≡ [] =
    stops-end m c.args.line (i + 1) i place m.places c.requires.places.lines_do_not_fall within (c.loop-index.invariant.0 i place (omega arith) within) other in
    let found = map (λ (q : Place). q.0) c.loop-index.on_line.items in
    sym (append-nil found) ∙ ap (λ l. found ++ l) (sym none) ∙ c.loop-index.invariant.1

pub loop-index-preserved : goal.loop-index-preserved
loop-index-preserved c =
    let m = c.args.table.now in
    let i = c.loop-index.index in
    let place = c.place_at-place.result in
    let got : slice_get m.places i ≡ Some place = subst (λ (f : Form). slice_get f.places i ≡ Some place) c.image-image.ensures c.place_at-place.ensures in (
      λ k d behind within. c.loop-index.invariant.0 k d (omega (arith, behind)) within,
      elim c.if-is_stop_on.branch [
        | then-is_stop_on+in_ok-push w ↦
            stops-more m c.args.line i place m.places c.loop-index.on_line.items c.if-is_stop_on.on_line.items _ got (sym c.is_stop_on.ensures ∙ w.if-is_stop_on.true) refl
            (ap (λ (v : Vec Place Global). v.items) w.on_line-is ∙ w.in_ok-push.ensures.items) ∙ c.loop-index.invariant.1
        | else-is_stop_on w ↦
            stops-other m c.args.line i place m.places c.loop-index.on_line.items c.if-is_stop_on.on_line.items got (sym c.is_stop_on.ensures ∙ w.if-is_stop_on.false) (ap (λ (v : Vec Place Global). v.items) w.on_line-is)
            ∙ c.loop-index.invariant.1
      ],
    )
