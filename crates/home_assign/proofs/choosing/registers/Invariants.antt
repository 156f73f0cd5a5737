use Rattle.std.proofs.Common.{◌≡◌, ℕ, Some, length, take}
use Rattle.std.specs.Prelude.{slice_get}
use Rattle.std.specs.List.{AllByRecursion}
use Rattle.graph_core.specs.Graphs.{graph_view}
use Rattle.graph_homes.specs.declared.home.Home.{Home}
use Rattle.graph_homes.specs.Homed.{IsHomeAmong}
use Rattle.home_assign.specs.Registers.{AreClashesOf}
use Rattle.home_assign.specs.Choosing.{HaveHomeRegisters}
use Rattle.home_assign.specs.Rule.{IsHome, slots_in}
use Rattle.home_assign.proofs.choosing.registers.Given as goal

abbrev pub invariant-loop-name : goal.invariant-loop-name
invariant-loop-name l = record {
  each : length l.choice.homes.items ≡ l.name;
  right : AreClashesOf (graph_view l.graph) l.interference;
  registers : HaveHomeRegisters l.interference l.choice.homes.items;
  slots : l.choice.slots ≡ slots_in l.choice.homes.items;
  among : AllByRecursion (IsHomeAmong (length l.choice.homes.items)) l.choice.homes.items;
  rule : (x : ℕ) (k : Home) → slice_get l.choice.homes.items x ≡ Some k → IsHome (graph_view l.graph) (take x l.choice.homes.items) x k;
}
