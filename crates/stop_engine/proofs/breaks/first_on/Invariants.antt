use Rattle.std.proofs.Common.{ℕ, ◌-◌, ◌<◌, ◌≤◌, length}
use Rattle.std.specs.Prelude.{slice_index_or}
use Rattle.image_form.specs.Views.{viewed}
use Rattle.image_form.specs.declared.tables.Place.{Place}
use Rattle.stop_engine.proofs.breaks.first_on.Given as goal

abbrev pub invariant-loop-low : goal.invariant-loop-low
invariant-loop-low l = record {
  order : l.low ≤ l.high;
  within : l.high ≤ length (viewed l.image).places;
  before : (k : ℕ) (d : Place) → k < l.low → k < length (viewed l.image).places → (slice_index_or (viewed l.image).places k d).line < l.line;
  behind : (k : ℕ) (d : Place) → l.high ≤ k → k < length (viewed l.image).places → l.line ≤ (slice_index_or (viewed l.image).places k d).line;
}

abbrev pub decreases-loop-low : goal.decreases-loop-low
decreases-loop-low l = l.high - l.low
