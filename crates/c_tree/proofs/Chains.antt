-- Where chains begin and end.
use Rattle.std.proofs.Common.{◌≡◌, List, [], ◌∷◌, refl, ◌∙◌}
use Rattle.std.specs.Prelude.{fold}
use Rattle.c_tree.specs.declared.operator.BinaryOperator.{BinaryOperator}
use Rattle.c_tree.specs.Expressions.{ExpressionTree, Comma, operation, suffixed, SuffixTree, Indexes, Calls, Increments, Decrements}
use Rattle.c_tree.specs.Ends.{first_spot}

pub suffixed_first : (e : ExpressionTree) (s : SuffixTree) → first_spot (suffixed e s) ≡ first_spot e
suffixed_first e (Indexes index last) = refl
suffixed_first e (Calls arguments last) = refl
suffixed_first e (Increments last) = refl
suffixed_first e (Decrements last) = refl

pub suffixes_first : (e : ExpressionTree) (ss : List SuffixTree) → first_spot (fold suffixed e ss) ≡ first_spot e
suffixes_first e [] = refl
suffixes_first e (s ∷ ss) = suffixes_first (suffixed e s) ss ∙ suffixed_first e s

pub operations_first : (e : ExpressionTree) (os : List (BinaryOperator × ExpressionTree)) → first_spot (fold operation e os) ≡ first_spot e
operations_first e [] = refl
operations_first e (o ∷ os) = operations_first (operation e o) os

pub commas_first : (e : ExpressionTree) (es : List ExpressionTree) → first_spot (fold Comma e es) ≡ first_spot e
commas_first e [] = refl
commas_first e (x ∷ es) = commas_first (Comma e x) es
