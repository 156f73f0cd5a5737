use Rattle.std.proofs.Common.{◌≡◌, ℕ, ◌<◌, ◌≤◌, Some}
use Rattle.std.specs.Prelude.{slice_get}
use Rattle.graph_core.specs.declared.graph.Scalar as declared-scalar
use Rattle.currency_shown.proofs.numbering.least_variable.Given as goal

abbrev pub invariant-loop-scalar : goal.invariant-loop-scalar
invariant-loop-scalar l = (x : ℕ) (s : declared-scalar.Scalar) → x < l.scalar-index → slice_get l.scalars x ≡ Some s → l.least ≤ s.var.0
