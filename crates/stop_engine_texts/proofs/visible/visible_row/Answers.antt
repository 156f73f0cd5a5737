use Rattle.std.proofs.Common.{◌≡◌, ℕ, List, sym, ap, ◌∙◌, arith}
use Rattle.std.specs.Prelude.{bytes_eq}
use Rattle.image_form.specs.Views.{viewed}
use Rattle.image_form.specs.declared.verdicts.VisibleRow.{VisibleRow}
use Rattle.stop_engine_texts.specs.Rows.{IsRow}
use Rattle.stop_engine_texts.specs.Shown.{first_row_of}
use Rattle.stop_engine_texts.proofs.FirstRow.{row_of_place}
use Rattle.stop_engine_texts.proofs.PlaceRows.{holds_at, row_behind, row_here, row_none}
use Rattle.stop_engine_texts.proofs.visible.visible_row.Goals as goal

pub loop-number-init : goal.loop-number-init
loop-number-init c =
    let m = viewed c.args.image.now in
    ap (first_row_of m c.args.place c.args.name.now) c.rows_at-start.ensures.rows ∙ row_of_place m c.args.place c.args.name.now m.rows

pub row_at-row-requires : goal.row_at-row-requires
row_at-row-requires c = omega (arith, c.loop-number-test.true, c.rows_at-start.ensures.within)

pub variable-requires-clause-number : goal.variable-requires-clause-number
variable-requires-clause-number c =
    let m = viewed c.args.image.now in
    let valid = holds_at (IsRow m) m.rows c.rows_at-start.result.start c.rows_at-start.result.end c.loop-number.number c.row_at-row.result c.rows_at-start.ensures.valid
    (omega (arith, c.loop-number.auto.number)) c.loop-number-test.true c.row_at-row.ensures in
    valid.variable

pub returns-then-eq-clause-found : goal.returns-then-eq-clause-found
returns-then-eq-clause-found c =
    let m = viewed c.args.image.now in
    let r = c.row_at-row.result in
    let of = holds_at (λ (q : VisibleRow). q.place ≡ c.args.place) m.rows c.rows_at-start.result.start c.rows_at-start.result.end c.loop-number.number r c.rows_at-start.ensures.places
    (omega (arith, c.loop-number.auto.number)) c.loop-number-test.true c.row_at-row.ensures in
    let is = sym (c.eq.ensures ∙ ap (λ (s : List ℕ). bytes_eq s c.args.name.now) c.variable.ensures) ∙ c.if-eq.true in
    sym (row_here m c.args.place c.loop-number.number c.rows_at-start.result.end c.args.name.now r c.loop-number-test.true c.row_at-row.ensures of is) ∙ c.loop-number.invariant

pub returns-then-eq-clause-row : goal.returns-then-eq-clause-row
returns-then-eq-clause-row c =
    let m = viewed c.args.image.now in
    holds_at (IsRow m) m.rows c.rows_at-start.result.start c.rows_at-start.result.end c.loop-number.number c.row_at-row.result c.rows_at-start.ensures.valid
    (omega (arith, c.loop-number.auto.number)) c.loop-number-test.true c.row_at-row.ensures

pub loop-number-preserved : goal.loop-number-preserved
loop-number-preserved c =
    let m = viewed c.args.image.now in
    let other = sym (c.eq.ensures ∙ ap (λ (s : List ℕ). bytes_eq s c.args.name.now) c.variable.ensures) ∙ c.if-eq.false in
    sym (row_behind m c.args.place c.loop-number.number c.rows_at-start.result.end c.args.name.now c.row_at-row.result c.loop-number-test.true c.row_at-row.ensures other) ∙ c.loop-number.invariant

pub returns-clause-found : goal.returns-clause-found
returns-clause-found c =
    let m = viewed c.args.image.now in
    sym (row_none m c.args.place c.loop-number.number c.rows_at-start.result.end c.args.name.now (omega (arith, c.loop-number-test.false))) ∙ c.loop-number.invariant
