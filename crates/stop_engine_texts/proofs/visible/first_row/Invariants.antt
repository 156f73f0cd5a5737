use Rattle.std.proofs.Common.{◌≤◌, ◌-◌, length}
use Rattle.image_form.specs.Views.{viewed}
use Rattle.stop_engine_texts.proofs.PlaceRows.{AreBefore, AreFrom}
use Rattle.stop_engine_texts.proofs.visible.first_row.Given as goal

abbrev pub invariant-loop-low : goal.invariant-loop-low
invariant-loop-low l = record {
  order : l.low ≤ l.high;
  within : l.high ≤ length (viewed l.image).rows;
  before : AreBefore l.place (viewed l.image).rows 0 l.low;
  behind : AreFrom l.place (viewed l.image).rows l.high (length (viewed l.image).rows);
}

abbrev pub decreases-loop-low : goal.decreases-loop-low
decreases-loop-low l = l.high - l.low
