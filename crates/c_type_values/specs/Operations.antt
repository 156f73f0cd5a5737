-- Operators on values (6.5). None is what the language does not allow.
use Rattle.std.specs.Prelude.{Bool, true, false, ◌&&◌, Option, Some, None, if◌then◌else◌}
use Rattle.c_tree.specs.declared.types.IntegerType.{IntegerType}
use Rattle.c_tree.specs.declared.types.IntegerType.TheVariants.{Int}
use Rattle.c_tree.specs.declared.operator.BinaryOperator.{BinaryOperator}
use Rattle.c_tree.specs.declared.operator.BinaryOperator.TheVariants as operator
use Rattle.c_tree.specs.declared.object_type.ObjectType.{ObjectType}
use Rattle.c_tree.specs.declared.object_type.ValueType.{ValueType}
use Rattle.c_tree.specs.declared.object_type.ValueType.TheVariants.{Void, Integer, Pointer}
use Rattle.c_tree.specs.declared.typed_expression.Arithmetic as declared-arithmetic
use Rattle.c_tree.specs.declared.typed_expression.Arithmetic.TheVariants as arithmetic
use Rattle.c_tree.specs.declared.typed_expression.Comparison.{Comparison}
use Rattle.c_tree.specs.declared.typed_expression.Comparison.TheVariants as comparison
use Rattle.c_tree.specs.declared.typed_expression.Sign.{Sign}
use Rattle.c_tree.specs.declared.typed_expression.Direction.{Direction}
use Rattle.c_tree.specs.declared.typed_expression.Direction.TheVariants.{Up, Down}
use Rattle.c_tree.specs.TypedExpressions.{Signed, Not, Discard, Arithmetic, Compare, ComparePointers, Move, MoveFrom, Difference, And, Or, Conditional, Comma}
use Rattle.c_type_rules.specs.declared.constancy.Constancy.{Constancy}
use Rattle.c_type_rules.specs.declared.constancy.Constancy.TheVariants.{Varies}
use Rattle.c_type_rules.specs.Integers.{common, promoted}
use Rattle.c_type_rules.specs.Types.{same_object, same_value}
use Rattle.c_type_rules.specs.Constancies.{and_constant, arithmetic_constant, comparison_constant, conditional_constant, not_constant, or_constant, sign_constant}
use Rattle.c_type_values.specs.declared.operation.Operation as declared-operation
use Rattle.c_type_values.specs.declared.operation.Operation.TheVariants.{Calculates, Compares, Both, Either}
use Rattle.c_type_values.specs.Values.{ValueTree, null, to_integer}

-- what an operator between two operands does
abbrev pub binary_operation : BinaryOperator → declared-operation.Operation
binary_operation operator.Multiply = Calculates arithmetic.Multiply
binary_operation operator.Divide = Calculates arithmetic.Divide
binary_operation operator.Remainder = Calculates arithmetic.Remainder
binary_operation operator.Add = Calculates arithmetic.Add
binary_operation operator.Subtract = Calculates arithmetic.Subtract
binary_operation operator.ShiftLeft = Calculates arithmetic.ShiftLeft
binary_operation operator.ShiftRight = Calculates arithmetic.ShiftRight
binary_operation operator.Less = Compares comparison.Less
binary_operation operator.Greater = Compares comparison.Greater
binary_operation operator.LessEqual = Compares comparison.LessEqual
binary_operation operator.GreaterEqual = Compares comparison.GreaterEqual
binary_operation operator.Equal = Compares comparison.Equal
binary_operation operator.NotEqual = Compares comparison.NotEqual
binary_operation operator.BitAnd = Calculates arithmetic.BitAnd
binary_operation operator.BitXor = Calculates arithmetic.BitXor
binary_operation operator.BitOr = Calculates arithmetic.BitOr
binary_operation operator.LogicalAnd = Both
binary_operation operator.LogicalOr = Either

-- an operator whose operands keep types of their own
abbrev pub is_shift : declared-arithmetic.Arithmetic → Bool
is_shift arithmetic.ShiftLeft = true
is_shift arithmetic.ShiftRight = true
is_shift _ = false

-- a comparison is == or !=
abbrev pub is_equality : Comparison → Bool
is_equality comparison.Equal = true
is_equality comparison.NotEqual = true
is_equality _ = false

-- an integer or a pointer
abbrev pub is_scalar : ValueType → Bool
is_scalar Void = false
is_scalar _ = true

-- `+a`, `-a`, `~a` in the promoted type
abbrev pub signed_as : ValueType → Sign → ValueTree → Option ValueTree
signed_as (Integer t) o v =
    Some (record {
      of = Integer (promoted t);
      tree = Signed o (promoted t) (to_integer (promoted t) v).tree;
      constant = sign_constant o (promoted t) (to_integer (promoted t) v).constant;
    })
signed_as _ o v = None

-- the value of a unary plus, minus or complement, if the operand allows it (C11 6.5.3.3)
abbrev pub signed_value : Sign → ValueTree → Option ValueTree
signed_value o v = signed_as v.of o v

-- `!a`, an int
abbrev pub negated : ValueTree → Option ValueTree
negated v =
    if is_scalar v.of then Some (record {
      of = Integer Int;
      tree = Not v.tree;
      constant = not_constant v.constant;
    }) else None

-- `(void)a`
abbrev pub discarded : ValueTree → ValueTree
discarded v = record { of = Void; tree = Discard v.tree; constant = Varies }

-- arithmetic in a type on two integers
abbrev pub in_types : declared-arithmetic.Arithmetic → IntegerType → ValueTree → ValueTree → ValueTree
in_types o t a b =
    record {
      of = Integer t;
      tree = Arithmetic o t a.tree b.tree;
      constant = arithmetic_constant o t a.constant b.constant;
    }

-- arithmetic on two integers: of a shift each operand is promoted, of the others both are of the common type (6.5.7p3,
-- 6.3.1.8)
unfoldable pub arithmetic_value : declared-arithmetic.Arithmetic → IntegerType → IntegerType → ValueTree → ValueTree
    → ValueTree
arithmetic_value o t u a b =
    if is_shift o then in_types o (promoted t) (to_integer (promoted t) a) (to_integer (promoted u) b)
    else in_types o (common t u) (to_integer (common t u) a) (to_integer (common t u) b)

-- a pointer moved by an integer, in its promoted type
abbrev pub moved_pointer : Direction → ObjectType → IntegerType → ValueTree → ValueTree → ValueTree
moved_pointer d element t p n =
    record { of = Pointer element; tree = Move d element p.tree (to_integer (promoted t) n).tree; constant = Varies }

-- the same, where the integer stands before the pointer
abbrev pub moved_from : ObjectType → IntegerType → ValueTree → ValueTree → ValueTree
moved_from element t n p =
    record { of = Pointer element; tree = MoveFrom (to_integer (promoted t) n).tree element p.tree; constant = Varies }

-- how many elements lie between two pointers, an int
abbrev pub element_difference : ObjectType → ValueTree → ValueTree → ValueTree
element_difference element a b = record { of = Integer Int; tree = Difference element a.tree b.tree; constant = Varies }

-- a pointer plus or minus an integer
abbrev pub pointer_sum : declared-arithmetic.Arithmetic → ObjectType → IntegerType → ValueTree → ValueTree
    → Option ValueTree
pointer_sum arithmetic.Add element t p n = Some (moved_pointer Up element t p n)
pointer_sum arithmetic.Subtract element t p n = Some (moved_pointer Down element t p n)
pointer_sum _ element t p n = None

-- an integer plus a pointer
abbrev pub moved_behind : declared-arithmetic.Arithmetic → ObjectType → IntegerType → ValueTree → ValueTree
    → Option ValueTree
moved_behind arithmetic.Add element t n p = Some (moved_from element t n p)
moved_behind _ element t n p = None

-- a pointer minus a pointer of its type
abbrev pub difference_by : declared-arithmetic.Arithmetic → ObjectType → ObjectType → ValueTree → ValueTree
    → Option ValueTree
difference_by arithmetic.Subtract element other a b =
    if same_object element other then Some (element_difference element a b) else None
difference_by _ element other a b = None

-- the value of an arithmetic operator on operands of two types, if they allow it (C11 6.5.5 to 6.5.12)
abbrev pub calculated_as : ValueType → ValueType → declared-arithmetic.Arithmetic → ValueTree → ValueTree
    → Option ValueTree
calculated_as (Integer t) (Integer u) o a b = Some (arithmetic_value o t u a b)
calculated_as (Pointer element) (Integer t) o a b = pointer_sum o element t a b
calculated_as (Integer t) (Pointer element) o a b = moved_behind o element t a b
calculated_as (Pointer element) (Pointer other) o a b = difference_by o element other a b
calculated_as _ _ o a b = None

-- arithmetic: on two integers, on a pointer and an integer, or the difference of two pointers of one type (6.5.5 to
-- 6.5.7, 6.5.10 to 6.5.12)
abbrev pub calculated_value : declared-arithmetic.Arithmetic → ValueTree → ValueTree → Option ValueTree
calculated_value o a b = calculated_as a.of b.of o a b

-- a comparison of two pointers, an int
abbrev pub comparison_of_pointers : Comparison → ValueTree → ValueTree → ValueTree
comparison_of_pointers o a b = record { of = Integer Int; tree = ComparePointers o a.tree b.tree; constant = Varies }

-- a comparison of two integers in a type, an int
abbrev pub integers_compared : Comparison → IntegerType → ValueTree → ValueTree → ValueTree
integers_compared o t a b =
    record {
      of = Integer Int;
      tree = Compare o t (to_integer t a).tree (to_integer t b).tree;
      constant = comparison_constant o (to_integer t a).constant (to_integer t b).constant;
    }

-- the value of a comparison of operands of two types, if they allow it (C11 6.5.8, 6.5.9)
abbrev pub compared_as : ValueType → ValueType → Comparison → ValueTree → ValueTree → Bool → Bool → Option ValueTree
compared_as (Integer t) (Integer u) o a b az bz = Some (integers_compared o (common t u) a b)
compared_as (Pointer element) (Pointer other) o a b az bz =
    if same_object element other then Some (comparison_of_pointers o a b) else None
compared_as (Pointer element) (Integer u) o a b az bz =
    if is_equality o && bz then Some (comparison_of_pointers o a (null a.of)) else None
compared_as (Integer t) (Pointer other) o a b az bz =
    if is_equality o && az then Some (comparison_of_pointers o (null b.of) b) else None
compared_as _ _ o a b az bz = None

-- a comparison: of two integers in their common type, of two pointers of one type, or for equality of a pointer and a
-- constant token 0 (6.5.8 and 6.5.9)
abbrev pub compared_value : Comparison → ValueTree → ValueTree → Bool → Bool → Option ValueTree
compared_value o a b az bz = compared_as a.of b.of o a b az bz

-- `a&&b` of two scalars, an int
abbrev pub logical_and : ValueTree → ValueTree → Option ValueTree
logical_and a b =
    if is_scalar a.of && is_scalar b.of then Some (record {
      of = Integer Int;
      tree = And a.tree b.tree;
      constant = and_constant a.constant b.constant;
    }) else None

-- `a||b` of two scalars, an int
abbrev pub logical_or : ValueTree → ValueTree → Option ValueTree
logical_or a b =
    if is_scalar a.of && is_scalar b.of then Some (record {
      of = Integer Int;
      tree = Or a.tree b.tree;
      constant = or_constant a.constant b.constant;
    }) else None

-- an operator between two values; the flags say which are constant tokens 0
abbrev pub combined : declared-operation.Operation → ValueTree → ValueTree → Bool → Bool → Option ValueTree
combined (Calculates o) a b az bz = calculated_value o a b
combined (Compares o) a b az bz = compared_value o a b az bz
combined Both a b az bz = logical_and a b
combined Either a b az bz = logical_or a b

-- `a,b`
abbrev pub sequenced : ValueTree → ValueTree → ValueTree
sequenced a b = record { of = b.of; tree = Comma a.tree b.tree; constant = Varies }

-- `a?b:c` with both arms of one type
abbrev pub conditional_value : ValueType → ValueTree → ValueTree → ValueTree → Constancy → ValueTree
conditional_value of c a b k = record { of = of; tree = Conditional c.tree a.tree b.tree; constant = k }

-- `a?b:c` on two integers, in their common type
abbrev pub chosen_integer : IntegerType → ValueTree → ValueTree → ValueTree → ValueTree
chosen_integer t c a b =
    conditional_value (Integer t) c (to_integer t a) (to_integer t b)
    (conditional_constant c.constant (to_integer t a).constant (to_integer t b).constant)

-- the value of a choice between operands of two types, if they allow it (C11 6.5.15)
abbrev pub chosen_as : ValueType → ValueType → ValueTree → ValueTree → ValueTree → Bool → Bool → Option ValueTree
chosen_as (Integer t) (Integer u) c a b az bz = Some (chosen_integer (common t u) c a b)
chosen_as (Pointer of) (Integer u) c a b az bz =
    if bz then Some (conditional_value a.of c a (null a.of) Varies) else None
chosen_as (Integer t) (Pointer of) c a b az bz =
    if az then Some (conditional_value b.of c (null b.of) b Varies) else None
chosen_as of other c a b az bz = if same_value of other then Some (conditional_value of c a b Varies) else None

-- `a?b:c`: the condition is a scalar, and the arms are two integers, of one type, or a pointer and a constant token 0
-- (6.5.15)
abbrev pub conditional_meaning : ValueTree → ValueTree → ValueTree → Bool → Bool → Option ValueTree
conditional_meaning c a b az bz = if is_scalar c.of then chosen_as a.of b.of c a b az bz else None
