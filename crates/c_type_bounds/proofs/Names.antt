-- What stands behind a suffix is no name.
use Rattle.std.proofs.Common.{◌≡◌, false, ap}
use Rattle.c_tree.specs.Expressions.{ExpressionTree, SuffixTree, suffixed}
use Rattle.c_tree.proofs.Cores.{suffixed_core}
use Rattle.c_type_bounds.specs.Weights.{is_name_expression, is_named}

pub suffixed_name : (e : ExpressionTree) (x : SuffixTree) → is_name_expression (suffixed e x) ≡ false
suffixed_name e x = ap is_named (suffixed_core e x)
