use Rattle.std.proofs.Common.{◌≡◌, ◌+◌, length, List, subst, arith}
use Rattle.image_form.specs.Views.{viewed}
use Rattle.image_form.specs.declared.verdicts.VisibleRow.{VisibleRow}
use Rattle.stop_engine_texts.proofs.PlaceRows.{AreBefore, AreFrom, in_order, rows_between}
use Rattle.stop_engine_texts.proofs.ValidRows.{rows_valid}
use Rattle.stop_engine_texts.proofs.visible.rows_at.Goals as goal

pub returns-clause-order : goal.returns-clause-order
returns-clause-order c =
    let rows : List VisibleRow = (viewed c.args.image.now).rows in
    let is : c.from-from.result ≡ c.args.place = c.from-from.ensures in
    in_order c.args.place c.first_row.result c.first_row-2.result rows c.first_row.ensures.within
    (subst (λ n. AreBefore n rows 0 c.first_row.result) is c.first_row.ensures.before)
    (subst (λ n. AreFrom (n + 1) rows c.first_row-2.result (length rows)) is c.first_row-2.ensures.behind)

pub returns-clause-rows : goal.returns-clause-rows
returns-clause-rows c =
    let rows : List VisibleRow = (viewed c.args.image.now).rows in
    let is : c.from-from.result ≡ c.args.place = c.from-from.ensures in
    rows_between c.args.place c.first_row.result c.first_row-2.result rows
    (subst (λ n. AreBefore n rows 0 c.first_row.result) is c.first_row.ensures.before)
    (subst (λ n. AreFrom n rows c.first_row.result (length rows)) is c.first_row.ensures.behind)
    (subst (λ n. AreBefore (n + 1) rows 0 c.first_row-2.result) is c.first_row-2.ensures.before)
    (subst (λ n. AreFrom (n + 1) rows c.first_row-2.result (length rows)) is c.first_row-2.ensures.behind)

pub returns-clause-valid : goal.returns-clause-valid
returns-clause-valid c = λ k d from lt. rows_valid (viewed c.args.image.now) c.requires k d (omega (arith, lt, c.first_row-2.ensures.within))
