use Rattle.std.proofs.Common.{◌≡◌, take}
use Rattle.std.specs.Prelude.{sum_by}
use Rattle.c_tree.specs.Statements.{branch_view, statement_view}
use Rattle.c_type_bounds.specs.Counts.{capped}
use Rattle.c_type_bounds.specs.Weights.{branch_weight, statement_weight}
use Rattle.c_type_bounds.proofs.weight_of_statement.+statement_weight.Given as goal

abbrev pub invariant-branches_weight-loop-one : goal.invariant-branches_weight-loop-one
invariant-branches_weight-loop-one l = l.total ≡ capped (sum_by (λ x. branch_weight (branch_view x)) (take l.one-index l.all))

abbrev pub invariant-statements_weight-loop-one : goal.invariant-statements_weight-loop-one
invariant-statements_weight-loop-one l = l.total ≡ capped (sum_by (λ x. statement_weight (statement_view x)) (take l.one-index l.all))
