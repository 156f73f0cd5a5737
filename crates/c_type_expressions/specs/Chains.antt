-- What stands behind an operand, and what it makes of what the operand means. The operand's first token is told.
use Rattle.std.specs.Prelude.{ℕ, List, [], ◌∷◌, Bool, false, Option, Some, None}
use Rattle.std.specs.Option.{option_map}
use Rattle.debug_records.specs.declared.source.Spot.{Spot}
use Rattle.debug_records.specs.declared.code.TheConstants.Code.{OPERAND_TYPES}
use Rattle.c_tree.specs.declared.typed_expression.Direction.TheVariants.{Up, Down}
use Rattle.c_tree.specs.declared.typed_expression.Given.TheVariants.{Old}
use Rattle.c_tree.specs.declared.operator.BinaryOperator.{BinaryOperator}
use Rattle.c_tree.specs.declared.expression.Expression.{Expression}
use Rattle.c_tree.specs.Expressions.{ExpressionTree, ExpressionTrees, expression_view, SuffixTree, Indexes, Calls, Increments, Decrements, chain_of_arguments}
use Rattle.c_tree.specs.Ends.{last_of}
use Rattle.c_type_values.specs.Values.{MeantTree, IsValue, as_value}
use Rattle.c_type_values.specs.Operations.{binary_operation, combined, sequenced}
use Rattle.c_type_values.specs.Pointers.{subscript}
use Rattle.c_type_expressions.specs.Names.{Names, SignatureTree}
use Rattle.c_type_expressions.specs.Findings.{FoundTree, gives, check_next, with_one, with_two, judged}
use Rattle.c_type_expressions.specs.Judgements.{Meant, valued, stepping, uncallable, noted, called}
use Rattle.c_type_expressions.specs.Expressions.{typed, typed_all, function_named, is_zero}

-- a call of a function with such arguments
abbrev pub function_called : Names → SignatureTree → ExpressionTrees → Spot → ℕ → FoundTree → Meant
function_called names g arguments first last s =
    check_next (typed_all names arguments g.parameters 0 (noted g.callee first s)) (called g first last)

-- an operator with its right operand, as the tree has them
abbrev pub operation_view : BinaryOperator × Expression → BinaryOperator × ExpressionTree
operation_view o = (o.0, expression_view o.1)

-- what a suffix makes of what its operand means, or of the function that the operand names
abbrev pub suffix_met : Names → Option SignatureTree → Spot → SuffixTree → Option MeantTree → FoundTree → Meant
suffix_met names (Some g) first (Calls arguments last) m s =
    function_called names g (chain_of_arguments arguments) first last s
suffix_met names None first (Calls arguments last) m s =
    check_next (typed_all names (chain_of_arguments arguments) [] 0 s)
    (λ q. uncallable first last (option_map as_value m))
suffix_met names g first (Indexes i last) m s =
    check_next (valued (typed names i s))
    (λ b. with_two (option_map as_value m) b (λ v w. judged (subscript v w) OPERAND_TYPES first last))
suffix_met names g first (Increments last) m s = with_one m (stepping Up Old first last) s
suffix_met names g first (Decrements last) m s = with_one m (stepping Down Old first last) s

-- what suffixes make of it, one behind the other
abbrev pub suffixes_met : Names → Option SignatureTree → Spot → List SuffixTree → Option MeantTree → FoundTree → Meant
suffixes_met names g first [] m s = gives m s
suffixes_met names g first (x ∷ xs) m s = check_next (suffix_met names g first x m s) (suffixes_met names None first xs)

-- the function that is called, where the first suffix is a call and the operand names a function
abbrev pub direct_callee : Names → ExpressionTree → List SuffixTree → Option SignatureTree
direct_callee names e (Calls arguments last ∷ xs) = function_named names e
direct_callee names e _ = None

-- an operator with its right operand; the flag says that the operand before it is a constant token 0
abbrev pub operation_met : Names → Spot → Bool → BinaryOperator × ExpressionTree → Option MeantTree → FoundTree → Meant
operation_met names first zero o m s =
    check_next (valued (typed names o.1 s))
    (λ y. with_two (option_map as_value m) y
    (λ v w. judged (option_map IsValue (combined (binary_operation o.0) v w zero (is_zero o.1)))
    OPERAND_TYPES first (last_of o.1)))

-- operators behind an operand, one behind the other
abbrev pub operations_met : Names → Spot → Bool → List (BinaryOperator × ExpressionTree) → Option MeantTree → FoundTree
    → Meant
operations_met names first zero [] m s = gives m s
operations_met names first zero (o ∷ os) m s =
    check_next (operation_met names first zero o m s) (operations_met names first false os)

-- an expression behind a comma
abbrev pub comma_met : Names → ExpressionTree → Option MeantTree → FoundTree → Meant
comma_met names e m s =
    check_next (valued (typed names e s))
    (λ y. with_two (option_map as_value m) y (λ v w. gives (Some (IsValue (sequenced v w)))))

-- expressions behind commas
abbrev pub commas_met : Names → List ExpressionTree → Option MeantTree → FoundTree → Meant
commas_met names [] m s = gives m s
commas_met names (e ∷ es) m s = check_next (comma_met names e m s) (commas_met names es)
