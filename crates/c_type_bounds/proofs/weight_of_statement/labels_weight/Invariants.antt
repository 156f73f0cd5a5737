use Rattle.std.proofs.Common.{◌≡◌, take}
use Rattle.std.specs.Prelude.{sum_by}
use Rattle.c_tree.specs.Statements.{label_view}
use Rattle.c_type_bounds.specs.Counts.{capped}
use Rattle.c_type_bounds.specs.Weights.{label_weight}
use Rattle.c_type_bounds.proofs.weight_of_statement.labels_weight.Given as goal

abbrev pub invariant-loop-one : goal.invariant-loop-one
invariant-loop-one l = l.total ≡ capped (sum_by (λ x. label_weight (label_view x)) (take l.one-index l.all))
