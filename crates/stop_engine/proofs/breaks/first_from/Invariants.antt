use Rattle.std.proofs.Common.{ℕ, ◌-◌, ◌<◌, ◌≤◌, length}
use Rattle.std.specs.Prelude.{slice_index_or}
use Rattle.image_form.specs.Views.{viewed}
use Rattle.image_form.specs.declared.tables.FlowPair.{FlowPair}
use Rattle.stop_engine.proofs.breaks.first_from.Given as goal

abbrev pub invariant-loop-low : goal.invariant-loop-low
invariant-loop-low l = record {
  order : l.low ≤ l.high;
  within : l.high ≤ length (viewed l.image).flow;
  before : (k : ℕ) (d : FlowPair) → k < l.low → k < length (viewed l.image).flow → (slice_index_or (viewed l.image).flow k d).from < l.place;
  behind : (k : ℕ) (d : FlowPair) → l.high ≤ k → k < length (viewed l.image).flow → l.place ≤ (slice_index_or (viewed l.image).flow k d).from;
}

abbrev pub decreases-loop-low : goal.decreases-loop-low
decreases-loop-low l = l.high - l.low
