use Rattle.std.proofs.Common.{◌≡◌, drop}
use Rattle.std.specs.Prelude.{map}
use Rattle.c_tree.specs.Declarations.{parameter_view}
use Rattle.c_type_declarations.specs.Progress.{progress_view}
use Rattle.c_type.specs.Functions.{parameter_sizes}
use Rattle.c_type.proofs.function.look_at_sizes.Given as goal

abbrev pub invariant-loop-parameter : goal.invariant-loop-parameter
invariant-loop-parameter l = parameter_sizes (map parameter_view (drop l.parameter-index l.parameters)) (progress_view l.progress) ≡ parameter_sizes (map parameter_view l.parameters) (progress_view l.fn.progress)
