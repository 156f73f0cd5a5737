use Rattle.std.proofs.Common.{◌≡◌, ◌≤◌, ◌++◌, length, map}
use Rattle.std.specs.List.{AllWithin, slice_range}
use Rattle.image_form.specs.Views.{viewed}
use Rattle.stop_engine.specs.Visible.{visible_at, visible_of, visible_of_row}
use Rattle.stop_engine_texts.specs.Rows.{IsRow}
use Rattle.stop_engine.proofs.locals.visible_at.Given as goal

abbrev pub invariant-loop-number : goal.invariant-loop-number
invariant-loop-number l = record {
  within : l.number-end ≤ length (viewed l.image).rows;
  valid : AllWithin (IsRow (viewed l.image)) (viewed l.image).rows l.number l.number-end;
  seen :
      map visible_of l.locals.items ++ map (visible_of_row (viewed l.image) l.machine) (slice_range (viewed l.image).rows l.number l.number-end)
      ≡ visible_at (viewed l.image) l.machine l.place;
}
