use Rattle.std.proofs.Common.{◌+◌, List, ap, sym, ◌∙◌, arith}
use Rattle.std.specs.List.{slice_range}
use Rattle.image_form.specs.Views.{viewed}
use Rattle.image_form.specs.declared.verdicts.VisibleRow.{VisibleRow}
use Rattle.stop_engine_texts.proofs.PlaceRows.{next_row, past_rows}
use Rattle.session_lines.specs.Summary.{counted_all}
use Rattle.session_lines.proofs.summary.count_all.Goals as goal

pub loop-number-init : goal.loop-number-init
loop-number-init c = ap (λ (rows : List VisibleRow). counted_all rows c.args.counts) c.rows_at-rows.ensures.rows

pub row_at-requires : goal.row_at-requires
row_at-requires c = omega (arith, c.loop-number-test.true, c.rows_at-rows.ensures.within)

pub loop-number-preserved : goal.loop-number-preserved
loop-number-preserved c =
    let rows : List VisibleRow = (viewed c.args.image.now).rows in
    let end = c.rows_at-rows.result.end in
    ap (counted_all (slice_range rows (c.loop-number.number + 1) end)) c.count-more.ensures
    ∙ (sym (ap (λ (all : List VisibleRow). counted_all all c.loop-number.more) (next_row c.loop-number.number end c.row_at.result rows c.loop-number-test.true c.row_at.ensures))
    ∙ c.loop-number.invariant)

pub returns : goal.returns
returns c =
    let rows : List VisibleRow = (viewed c.args.image.now).rows in
    sym (ap (λ (all : List VisibleRow). counted_all all c.loop-number.more) (past_rows c.loop-number.number c.rows_at-rows.result.end rows (omega (arith, c.loop-number-test.false)))) ∙ c.loop-number.invariant
