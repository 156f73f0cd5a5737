-- The views of expressions, one equation for each variant.
use Rattle.std.proofs.Common.{◌≡◌, ℕ, None, Some, Box, Vec, Global, ap, sym, ◌∙◌}
use Rattle.std.specs.Prelude.{fold, map}
use Rattle.debug_records.specs.declared.source.Spot.{Spot}
use Rattle.c_tree.specs.declared.extent.Extent.{Extent}
use Rattle.c_tree.specs.declared.extent.Identifier.{Identifier}
use Rattle.c_tree.specs.declared.operator.BinaryOperator.{BinaryOperator}
use Rattle.c_tree.specs.declared.operator.PrefixOperator.{PrefixOperator}
use Rattle.c_tree.specs.declared.operator.AssignmentOperator.{AssignmentOperator}
use Rattle.c_tree.specs.declared.types.IntegerType.{IntegerType}
use Rattle.c_tree.specs.declared.types.TypeName.{TypeName}
use Rattle.c_tree.specs.declared.expression.Expression.{Expression, Expression-F, fold-roll-Expression}
use Rattle.c_tree.specs.declared.expression.Expression.TheVariants as expression
use Rattle.c_tree.specs.declared.expression.Suffix.{Suffix, Suffix-F, fold-roll-Suffix}
use Rattle.c_tree.specs.declared.expression.Suffix.TheVariants as suffix
use Rattle.c_tree.specs.Expressions.{ExpressionTree, identifier_view, Name, Constant, Literal, Parenthesized, Prefix, Cast, SizeofExpression, SizeofType, SizeofArray, Conditional, Assignment, Comma, operation, suffixed, SuffixTree, Indexes, Calls, Increments, Decrements, expression_step, suffix_step, expression_view, suffix_view}

pub postfix_view : (e : Box Expression Global) (ss : Vec Suffix Global) → expression_view (expression.Postfix e ss) ≡ fold suffixed (expression_view e.value) (map suffix_view ss.items)
postfix_view e ss =
    ap expression_view (sym (expression.rolls-Postfix e ss)) ∙ fold-roll-Expression ExpressionTree SuffixTree expression_step suffix_step (Expression-F.Postfix e ss)

pub sizeof_expression_view : (spot : Spot) (e : Box Expression Global) → expression_view (expression.SizeofExpression spot e) ≡ SizeofExpression spot (expression_view e.value)
sizeof_expression_view spot e =
    ap expression_view (sym (expression.rolls-SizeofExpression spot e)) ∙ fold-roll-Expression ExpressionTree SuffixTree expression_step suffix_step (Expression-F.SizeofExpression spot e)

pub binary_view : (e : Box Expression Global) (os : Vec (BinaryOperator × Expression) Global)
    → expression_view (expression.Binary e os) ≡ fold operation (expression_view e.value) (map (λ o. (o.0, expression_view o.1)) os.items)
binary_view e os =
    ap expression_view (sym (expression.rolls-Binary e os)) ∙ fold-roll-Expression ExpressionTree SuffixTree expression_step suffix_step (Expression-F.Binary e os)

pub comma_view : (e : Box Expression Global) (es : Vec Expression Global) → expression_view (expression.Comma e es) ≡ fold Comma (expression_view e.value) (map expression_view es.items)
comma_view e es =
    ap expression_view (sym (expression.rolls-Comma e es)) ∙ fold-roll-Expression ExpressionTree SuffixTree expression_step suffix_step (Expression-F.Comma e es)
