use Rattle.std.proofs.Common.{◌≡◌, ℕ, ◌+◌, ◌-◌, ◌<◌, ◌≤◌, ◌++◌, drop, length, map}
use Rattle.std.specs.Prelude.{slice_index_or}
use Rattle.debug_records.specs.declared.change.Place.{Place}
use Rattle.image_form.specs.declared.tables.Place as row
use Rattle.stop_engine.specs.Breaks.{stops_on}
use Rattle.stop_engine.proofs.breaks.stops_on.Given as goal

abbrev pub invariant-loop-index : goal.invariant-loop-index
invariant-loop-index l =
    ((k : ℕ) (d : row.Place) → l.index ≤ k → k < length l.table.places → l.line ≤ (slice_index_or l.table.places k d).line)
    × (map (λ (q : Place). q.0) l.on_line.items ++ stops_on l.table l.line (l.index + 1) (drop l.index l.table.places) ≡ stops_on l.table l.line 1 l.table.places)

abbrev pub decreases-loop-index : goal.decreases-loop-index
decreases-loop-index l = l.count - l.index
