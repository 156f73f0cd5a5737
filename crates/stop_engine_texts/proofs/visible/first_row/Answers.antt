use Rattle.std.proofs.Common.{◌+◌, ◌-◌, ◌/◌, ◌<◌, ◌≤◌, List, arith}
use Rattle.image_form.specs.Views.{viewed}
use Rattle.image_form.specs.declared.verdicts.VisibleRow.{VisibleRow}
use Rattle.stop_engine_view.proofs.RowsByPlace.{places_ascend}
use Rattle.stop_engine_texts.proofs.PlaceRows.{before_more, behind_more}
use Rattle.stop_engine_texts.proofs.visible.first_row.Goals as goal

pub loop-low-preserved-then-from-place : goal.loop-low-preserved-then-from-place
loop-low-preserved-then-from-place c =
    let rows : List VisibleRow = (viewed c.args.image.now).rows in
    let middle = c.loop-low.low + (c.loop-low.high - c.loop-low.low) / 2 in
    let less : c.row_at.result.place < c.args.place = omega (arith, c.from.ensures, c.if-from-place.true) in
    record {
      order = omega (arith, c.loop-low-test.true);
      within = c.loop-low.invariant.within;
      before = before_more c.args.place middle c.row_at.result rows (places_ascend rows c.requires.rows.ascend) c.row_at.ensures less;
      behind = c.loop-low.invariant.behind;
    }

pub loop-low-preserved : goal.loop-low-preserved
loop-low-preserved c =
    let rows : List VisibleRow = (viewed c.args.image.now).rows in
    let middle = c.loop-low.low + (c.loop-low.high - c.loop-low.low) / 2 in
    let least : c.args.place ≤ c.row_at.result.place = omega (arith, c.from.ensures, c.if-from-place.false) in
    record {
      order = omega arith;
      within = omega (arith, c.loop-low-test.true, c.loop-low.invariant.within);
      before = c.loop-low.invariant.before;
      behind = behind_more c.args.place middle c.row_at.result rows (places_ascend rows c.requires.rows.ascend) c.row_at.ensures least;
    }
