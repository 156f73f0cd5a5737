use Rattle.std.proofs.Common.{◌≡◌, take}
use Rattle.std.specs.Prelude.{fold, map, sum_by}
use Rattle.c_tree.specs.Expressions.{Comma, ExpressionTree, expression_view, operation, suffix_view, suffixed}
use Rattle.c_type_bounds.specs.Counts.{capped}
use Rattle.c_type_bounds.specs.Weights.{is_name_expression, operation_view, weight_of}
use Rattle.c_type_bounds.proofs.weight.+weight.Given as goal

abbrev pub invariant-operations_weight-loop-right : goal.invariant-operations_weight-loop-right
invariant-operations_weight-loop-right l =
    (e : ExpressionTree) → l.operand ≡ capped (weight_of e) → l.total ≡ capped (weight_of (fold operation e (map operation_view (take l.right-index l.operations))))

abbrev pub invariant-commas_weight-loop-e : goal.invariant-commas_weight-loop-e
invariant-commas_weight-loop-e l =
    (e : ExpressionTree) → l.operand ≡ capped (weight_of e) → l.total ≡ capped (weight_of (fold Comma e (map expression_view (take l.e-index l.rest))))

abbrev pub invariant-suffixes_weight-loop-suffix : goal.invariant-suffixes_weight-loop-suffix
invariant-suffixes_weight-loop-suffix l =
    (e : ExpressionTree) → l.operand ≡ capped (weight_of e) → l.is_name ≡ is_name_expression e
    → (l.total ≡ capped (weight_of (fold suffixed e (map suffix_view (take l.suffix-index l.suffixes)))))
    × (l.is_named ≡ is_name_expression (fold suffixed e (map suffix_view (take l.suffix-index l.suffixes))))

abbrev pub invariant-weight_of_all-loop-e : goal.invariant-weight_of_all-loop-e
invariant-weight_of_all-loop-e l = l.total ≡ capped (sum_by (λ x. weight_of (expression_view x)) (take l.e-index l.all))
