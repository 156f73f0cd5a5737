use Rattle.std.proofs.Common.{◌≡◌, take}
use Rattle.std.specs.Prelude.{sum_by}
use Rattle.c_tree.specs.Declarations.{parameter_view}
use Rattle.c_type_bounds.specs.Counts.{capped}
use Rattle.c_type_bounds.specs.Weights.{parameter_weight}
use Rattle.c_type_bounds.proofs.weight_of_statement.parameters_weight.Given as goal

abbrev pub invariant-loop-one : goal.invariant-loop-one
invariant-loop-one l = l.total ≡ capped (sum_by (λ x. parameter_weight (parameter_view x)) (take l.one-index l.all))
