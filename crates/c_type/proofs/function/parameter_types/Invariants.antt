use Rattle.std.proofs.Common.{◌≡◌, ◌++◌, drop}
use Rattle.std.specs.Prelude.{map}
use Rattle.c_tree.specs.Declarations.{parameter_view}
use Rattle.c_type.specs.Functions.{parameter_types}
use Rattle.c_type.proofs.function.parameter_types.Given as goal

abbrev pub invariant-loop-parameter : goal.invariant-loop-parameter
invariant-loop-parameter l = l.types.items ++ parameter_types (map parameter_view (drop l.parameter-index l.parameters)) ≡ parameter_types (map parameter_view l.parameters)
