-- What expressions mean (6.5), each part before what holds it, in text order.
use Rattle.std.specs.Prelude.{ℕ, ◌+◌, ◌==◌, nat_le, pos, List, [], length, Bool, false, Option, Some, None, slice_get}
use Rattle.std.specs.Option.{option_map}
use Rattle.debug_records.specs.declared.source.Spot.{Spot}
use Rattle.debug_records.specs.declared.code.TheConstants.Code.{OPERAND_TYPES}
use Rattle.c_tree.specs.declared.object_type.Scalar.{Scalar}
use Rattle.c_tree.specs.declared.typed_expression.Direction.TheVariants.{Up, Down}
use Rattle.c_tree.specs.declared.typed_expression.Given.TheVariants.{Old}
use Rattle.c_tree.specs.Expressions.{ExpressionTree, Name, Constant, Literal, Parenthesized, Index, Call, PostIncrement, PostDecrement, Prefix, Cast, SizeofExpression, SizeofType, SizeofArray, Binary, Conditional, Assignment, Comma, ExpressionTrees}
use Rattle.c_tree.specs.Cores.{CoreTree, Named, Constantly, core_of}
use Rattle.c_tree.specs.Expressions as tree
use Rattle.c_tree.specs.TypedExpressions as typed-tree
use Rattle.c_tree.specs.Ends.{first_spot, last_of}
use Rattle.c_type_rules.specs.Integers.{scalar_size}
use Rattle.c_type_values.specs.Values.{ValueTree, IsValue}
use Rattle.c_type_values.specs.Pointers.{subscript}
use Rattle.c_type_values.specs.Operations.{binary_operation, combined, conditional_meaning, sequenced}
use Rattle.c_type_expressions.specs.declared.names.Meaning.{Meaning}
use Rattle.c_type_expressions.specs.declared.names.Meaning.TheVariants.{Function}
use Rattle.c_type_expressions.specs.Names.{Names, SignatureTree, meaning_of}
use Rattle.c_type_expressions.specs.Findings.{FoundTree, Checked, gives, check_next, with_one, with_two, with_three, judged, restored}
use Rattle.c_type_expressions.specs.Judgements.{Meant, valued, constant_of_type, meaning_of_name, literal_met, stepping, prefixed, cast_meaning, size_value, measured, sized, assignment_by, Passed, passed_to, argument_before, uncallable, noted, called}

-- a constant token of value 0
abbrev pub is_zero_core : CoreTree → Bool
is_zero_core (Constantly spot value type) = value == 0
is_zero_core _ = false

-- the same, perhaps in parentheses
abbrev pub is_zero : ExpressionTree → Bool
is_zero e = is_zero_core (core_of e)

-- the number of a function, where a name means one
abbrev pub function_meant : Option Meaning → Option ℕ
function_meant (Some (Function k)) = Some k
function_meant _ = None

-- the number of the function that is named
abbrev pub number_of_core : Names → CoreTree → Option ℕ
number_of_core names (Named n) = function_meant (meaning_of names n.name)
number_of_core names _ = None

-- the number of the function that an expression names, perhaps in parentheses
abbrev pub function_number : Names → ExpressionTree → Option ℕ
function_number names e = number_of_core names (core_of e)

-- the function of a number
abbrev pub function_at : Names → Option ℕ → Option SignatureTree
function_at names (Some k) = slice_get names.signatures k
function_at names None = None

-- the function that an expression names
abbrev pub function_named : Names → ExpressionTree → Option SignatureTree
function_named names e = function_at names (function_number names e)

-- a call, whose operand is looked at as an expression where it names no function
abbrev pub call_meaning : Option SignatureTree → Checked (Option ValueTree)
    → (List Scalar → ℕ → FoundTree → Checked Passed) → Spot → ℕ → FoundTree → Meant
call_meaning (Some g) operand arguments first last s =
    check_next (arguments g.parameters 0 (noted g.callee first s)) (called g first last)
call_meaning None operand arguments first last s =
    check_next operand (λ f t. check_next (arguments [] 0 t) (λ q. uncallable first last f))

module _ (names : Names) where
  abbrev mutual
    -- what an expression means: an object or a value with its type, or the faults that are found in it (C11 6.5)
    pub typed : ExpressionTree → FoundTree → Meant
    typed (Name n) s = meaning_of_name (meaning_of names n.name) n.spot s
    typed (Constant spot value type) s = gives (Some (constant_of_type type (pos value))) s
    typed (Literal extent bytes) s = literal_met extent.first bytes s
    typed (Parenthesized extent e) s = typed e s
    typed (Index e i last) s =
        check_next (valued (typed e s))
        (λ a t. check_next (valued (typed i t))
        (λ b. with_two a b (λ v w. judged (subscript v w) OPERAND_TYPES (first_spot e) last)))
    typed (Call e all last) s =
        call_meaning (function_named names e) (valued (typed e s)) (typed_all all) (first_spot e) last s
    typed (PostIncrement e last) s = check_next (typed e s) (λ a. with_one a (stepping Up Old (first_spot e) last))
    typed (PostDecrement e last) s = check_next (typed e s) (λ a. with_one a (stepping Down Old (first_spot e) last))
    typed (Prefix spot o e) s = check_next (typed e s) (λ a. with_one a (prefixed o spot (last_of e)))
    typed (Cast spot to e) s = check_next (valued (typed e s)) (cast_meaning to spot (last_of e))
    typed (SizeofExpression spot e) s =
        check_next (typed e s)
        (λ a t. with_one a (measured spot (last_of e)) (restored (length s.undefined) (length s.literals) t))
    typed (SizeofType extent type stars) s =
        gives (Some (size_value (scalar_size (record { base = type; stars = stars })))) s
    typed (SizeofArray extent type stars e) s =
        check_next (valued (typed e s)) (λ a. with_one a (sized (scalar_size (record {
          base = type;
          stars = stars;
        })) extent.first extent.last))
    typed (Binary o a b) s =
        check_next (valued (typed a s))
        (λ x t. check_next (valued (typed b t))
        (λ y. with_two x y
        (λ v w. judged (option_map IsValue (combined (binary_operation o) v w (is_zero a) (is_zero b)))
        OPERAND_TYPES (first_spot a) (last_of b))))
    typed (Conditional c a b) s =
        check_next (valued (typed c s))
        (λ x t. check_next (valued (typed a t))
        (λ y u. check_next (valued (typed b u))
        (λ z. with_three x y z
        (λ v w r. judged (option_map IsValue (conditional_meaning v w r (is_zero a) (is_zero b)))
        OPERAND_TYPES (first_spot c) (last_of b)))))
    typed (Assignment o a b) s =
        check_next (typed a s)
        (λ x t. check_next (valued (typed b t))
        (λ y. with_two x y (assignment_by o (is_zero b) (first_spot a) (last_of b))))
    typed (Comma a b) s =
        check_next (valued (typed a s))
        (λ x t. check_next (valued (typed b t)) (λ y. with_two x y (λ v w. gives (Some (IsValue (sequenced v w))))))

    -- arguments, each for its parameter, from that of a number on; there is one for each parameter
    pub typed_all : ExpressionTrees → List Scalar → ℕ → FoundTree → Checked Passed
    typed_all tree.none parameters at s =
        gives (record { trees = typed-tree.none; fit = nat_le (length parameters) at }) s
    typed_all (tree.first e rest) parameters at s =
        check_next (valued (typed e s))
        (λ v t. check_next (typed_all rest parameters (at + 1) t)
        (argument_before (passed_to (slice_get parameters at) v (is_zero e))))
