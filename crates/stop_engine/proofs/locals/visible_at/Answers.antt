use Rattle.std.proofs.Common.{◌≡◌, get_or, map, sym, ap, subst, ◌∙◌, arith}
use Rattle.image_form.specs.Views.{viewed}
use Rattle.stop_engine.specs.Visible.{visible_of_row}
use Rattle.stop_engine_tables.proofs.Records.{record_at}
use Rattle.stop_engine_texts.specs.Rows.{IsRow}
use Rattle.stop_engine.proofs.VisibleLaws.{seen-all, seen-more}
use Rattle.stop_engine.proofs.locals.visible_at.Goals as goal

pub loop-number-init : goal.loop-number-init
loop-number-init c = record {
  within = c.rows_at-rows.ensures.within;
  valid = c.rows_at-rows.ensures.valid;
  seen = rw c.new-locals.ensures.items (ap (map (visible_of_row (viewed c.args.image.now) c.args.machine.now)) c.rows_at-rows.ensures.rows);
}

pub visible_of_row-requires-clause-row : goal.visible_of_row-requires-clause-row
visible_of_row-requires-clause-row c =
    let m = viewed c.args.image.now in
    let row = c.row_at-row.result in
    let same : row ≡ get_or m.rows c.loop-number.number row = record_at m.rows c.loop-number.number row row c.row_at-row.ensures in
    subst (IsRow m) (sym same) (c.loop-number.invariant.valid c.loop-number.number row (omega arith) c.loop-number-test.true)

pub loop-number-preserved : goal.loop-number-preserved
loop-number-preserved c = record {
  within = c.loop-number.invariant.within;
  valid = λ k d low high. c.loop-number.invariant.valid k d (omega (arith, low)) high;
  seen =
      seen-more (viewed c.args.image.now) c.args.machine.now c.loop-number.number c.rows_at-rows.result.end c.row_at-row.result c.loop-number.locals.items _ c.in_ok-local.local
      c.row_at-row.ensures c.loop-number-test.true c.in_ok-local.ensures c.in_ok-push.ensures.items ∙ c.loop-number.invariant.seen;
}

pub returns : goal.returns
returns c =
    seen-all (viewed c.args.image.now) c.args.machine.now c.loop-number.number c.rows_at-rows.result.end c.loop-number.locals.items c.loop-number-test.false ∙ c.loop-number.invariant.seen
