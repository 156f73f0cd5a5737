use Rattle.std.proofs.Common.{◌≡◌, ℕ, ◌<◌, Some}
use Rattle.std.specs.Prelude.{slice_get}
use Rattle.graph_core.specs.declared.name.Label.{Label}
use Rattle.rv_emit_plan.specs.Plans.{held_at}
use Rattle.rv_emit_sequence.specs.Sequences.{Holds}
use Rattle.rv_emit_sequence.proofs.planned.leads_well.Given as goal

abbrev pub invariant-loop-label : goal.invariant-loop-label
invariant-loop-label l = (k : ℕ) (label : Label) → k < l.label-index → slice_get l.label-items k ≡ Some label → Holds l.held (held_at l.plan label.0)
