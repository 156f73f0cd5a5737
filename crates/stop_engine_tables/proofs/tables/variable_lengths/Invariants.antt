use Rattle.std.proofs.Common.{◌≡◌, map, take}
use Rattle.image_form.specs.declared.variables.Variable.{Variable}
use Rattle.image_form.specs.Views.{viewed}
use Rattle.stop_engine_tables.proofs.tables.variable_lengths.Given as goal

abbrev pub invariant-loop-number : goal.invariant-loop-number
invariant-loop-number l = l.lengths.items ≡ map (λ (v : Variable). v.name_length) (take l.number (viewed l.image).variables)
