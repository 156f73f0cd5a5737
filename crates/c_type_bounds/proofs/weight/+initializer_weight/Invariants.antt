use Rattle.std.proofs.Common.{◌≡◌, take}
use Rattle.std.specs.Prelude.{sum_by}
use Rattle.c_tree.specs.Declarations.{initializer_view}
use Rattle.c_type_bounds.specs.Counts.{capped}
use Rattle.c_type_bounds.specs.Weights.{initializer_weight}
use Rattle.c_type_bounds.proofs.weight.+initializer_weight.Given as goal

abbrev pub invariant-initializers_weight-loop-one : goal.invariant-initializers_weight-loop-one
invariant-initializers_weight-loop-one l = l.total ≡ capped (sum_by (λ x. initializer_weight (initializer_view x)) (take l.one-index l.all))
