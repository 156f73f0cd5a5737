use Rattle.std.proofs.Common.{◌≡◌, ℕ, ◌<◌, Some, length}
use Rattle.std.specs.Prelude.{slice_get}
use Rattle.std.specs.List.{AllByRecursion}
use Rattle.graph_homes.specs.declared.home.Home.TheVariants.{Slot}
use Rattle.graph_homes.specs.Homed.{IsHomeAmong}
use Rattle.home_assign.proofs.assigning.slots.Given as goal

abbrev pub invariant-loop-name : goal.invariant-loop-name
invariant-loop-name l = record {
  each : length l.homes.items ≡ l.name;
  among : AllByRecursion (IsHomeAmong (length l.homes.items)) l.homes.items;
  own : (x : ℕ) → x < l.name → slice_get l.homes.items x ≡ Some (Slot x);
}
