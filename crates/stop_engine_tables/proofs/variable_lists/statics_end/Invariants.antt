use Rattle.std.proofs.Common.{◌≡◌, ◌≤◌, false, drop, length, All}
use Rattle.image_form.specs.declared.variables.Variable.{Variable}
use Rattle.image_form.specs.Views.{viewed}
use Rattle.stop_engine_tables.specs.VariableLists.{is_static}
use Rattle.stop_engine_tables.proofs.variable_lists.statics_end.Given as goal

abbrev pub invariant-loop-end : goal.invariant-loop-end
invariant-loop-end l =
    (l.end ≤ length (viewed l.image).variables) × All (λ (v : Variable). is_static v ≡ false) (drop l.end (viewed l.image).variables)

abbrev pub decreases-loop-end : goal.decreases-loop-end
decreases-loop-end l = l.end
