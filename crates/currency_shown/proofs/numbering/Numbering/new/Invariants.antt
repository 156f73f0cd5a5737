use Rattle.std.proofs.Common.{◌≡◌, ℕ, ◌+◌, ◌-◌, ◌<◌, Some, length}
use Rattle.std.specs.Prelude.{slice_get}
use Rattle.graph_core.specs.declared.graph.Scalar as declared-scalar
use Rattle.currency_shown.proofs.numbering.Numbering.new.Given as goal

abbrev pub invariant-loop-name : goal.invariant-loop-name
invariant-loop-name l = record {
  size : length l.names.items ≡ l.count;
  put : (x : ℕ) (s : declared-scalar.Scalar) → x < l.name → slice_get l.scalars x ≡ Some s → slice_get l.names.items (s.var.0 - l.first) ≡ Some (Some x);
  only : (i x : ℕ) → slice_get l.names.items i ≡ Some (Some x) → (s : declared-scalar.Scalar) × (slice_get l.scalars x ≡ Some s) × (s.var.0 ≡ i + l.first);
}
