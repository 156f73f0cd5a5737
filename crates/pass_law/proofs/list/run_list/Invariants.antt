use Rattle.std.proofs.Common.{◌≡◌, ℕ, ◌<◌, ◌≤◌, ◌+◌, map, take, Some, length}
use Rattle.std.specs.Prelude.{slice_get}
use Rattle.debug_records.specs.declared.change.PassName.{PassName}
use Rattle.graph_core.specs.Graphs.{UnitForm, unit_view}
use Rattle.debug_records.specs.Change.{letters}
use Rattle.pass_law.specs.HandedIn.{IsNoPass}
use Rattle.pass_law.specs.Trails.{IsTrail}
use Rattle.pass_law.proofs.KeptTrails.{IsAfter}
use Rattle.pass_law.proofs.list.run_list.Given as goal

abbrev pub invariant-loop-i : goal.invariant-loop-i
invariant-loop-i g l = record {
  trail : IsTrail (λ p. (goal.Pass-dyn g (p.vtable, p.value)).named p.value) (λ p. (goal.Pass-dyn g (p.vtable, p.value)).steps p.value) l.passes (take l.i l.names) (map unit_view l.units.items);
  first : slice_get (map unit_view l.units.items) 0 ≡ Some (unit_view l.fn.unit);
  count : length l.units.items ≡ l.i + 1;
  within : l.i ≤ length l.names;
  last : (u : UnitForm) → slice_get (map unit_view l.units.items) l.i ≡ Some u → IsAfter (λ p. (goal.Pass-dyn g (p.vtable, p.value)).named p.value) (λ p. (goal.Pass-dyn g (p.vtable, p.value)).steps p.value) l.passes (unit_view l.fn.unit) (take l.i l.names) u;
  known : (k : ℕ) → k < l.i → (name : PassName) → slice_get l.names k ≡ Some name → IsNoPass (λ p. (goal.Pass-dyn g (p.vtable, p.value)).named p.value) l.passes (letters name) → ⊥;
}
