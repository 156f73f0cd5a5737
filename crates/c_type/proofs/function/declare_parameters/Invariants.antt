use Rattle.std.proofs.Common.{◌≡◌, drop}
use Rattle.std.specs.Prelude.{map}
use Rattle.c_tree.specs.Declarations.{parameter_view}
use Rattle.c_type_declarations.specs.Progress.{progress_view}
use Rattle.c_type.specs.Functions.{parameters_met}
use Rattle.c_type.proofs.function.declare_parameters.Given as goal

abbrev pub invariant-loop-parameter : goal.invariant-loop-parameter
invariant-loop-parameter l = parameters_met (map parameter_view (drop l.parameter-index l.parameters)) (progress_view l.progress) ≡ parameters_met (map parameter_view l.parameters) (progress_view l.fn.progress)
