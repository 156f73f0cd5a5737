use Rattle.std.proofs.Common.{◌≡◌, ◌-◌, ◌≤◌, ℕ, Some, length}
use Rattle.std.specs.Prelude.{slice_get}
use Rattle.currency_notes.specs.declared.state.State as declared-state
use Rattle.currency_shown.proofs.states.nothing.Given as goal

abbrev pub invariant-loop-arrived : goal.invariant-loop-arrived
invariant-loop-arrived l = record {
  none : (k : ℕ) (t : declared-state.State) → slice_get l.arrived.items k ≡ Some (Some t) → ⊥;
  most : length l.arrived.items ≤ l.count;
}

abbrev pub decreases-loop-arrived : goal.decreases-loop-arrived
decreases-loop-arrived l = l.count - length l.arrived.items
