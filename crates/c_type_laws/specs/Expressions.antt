-- When expressions are well typed. Constants are of their types, and an implicit conversion is a node of its own
-- (ISO/IEC 9899:2011, 6.5).
use Rattle.std.specs.Prelude.{◌&&◌, Bool, true, false, List, [], ◌∷◌, if◌then◌else◌}
use Rattle.c_tree.specs.declared.types.IntegerType.TheVariants.{Int}
use Rattle.c_tree.specs.declared.object_type.ValueType.{ValueType}
use Rattle.c_tree.specs.declared.object_type.ValueType.TheVariants.{Void, Integer, Pointer}
use Rattle.c_tree.specs.TypedExpressions.{RvalueTree, LvalueTree, ArgumentTrees, Constant, Null, Load, Decay, AddressOf, Convert, Discard, Signed, Not, Arithmetic, Compare, ComparePointers, Move, MoveFrom, Difference, And, Or, Conditional, Comma, Assign, Update, UpdatePointer, Step, StepPointer, Call, Named, Target, Element, ElementFrom, none, first}
use Rattle.c_tree.specs.Programs.{TypedFunctionTree, ProgramTree}
use Rattle.c_type_rules.specs.Integers.{fits, promoted}
use Rattle.c_type_rules.specs.Types.{loaded_type, same_integer}
use Rattle.c_type_rules.specs.ValueTypes.{decayed, given_by, object_type, results_of}
use Rattle.c_type_laws.specs.Kind.{Kind, Wrong, NullPointer}
use Rattle.c_type_laws.specs.Kinds.{of_if, is_promoted, is_of, is_typed, is_scalar, is_pointer, is_integer, is_counted, joined, is_operand, holds_scalar, holds_integer, holds_pointer, is_array, is_object, is_callee, taken_by}

module _ (p : ProgramTree) (f : TypedFunctionTree) where
  abbrev mutual
    -- what the value of an expression of a function is, if it is well typed
    pub kind_of : RvalueTree → Kind
    kind_of (Constant z t) = of_if (fits t z) (Integer t)
    kind_of Null = NullPointer
    kind_of (Load s l) = of_if (holds_scalar (object_type l) s && is_place l) (loaded_type s)
    kind_of (Decay l) = of_if (is_array (object_type l) && is_place l) (decayed (object_type l))
    kind_of (AddressOf l) = of_if (is_place l) (Pointer (object_type l))
    kind_of (Convert t e) = of_if (is_integer (kind_of e)) (Integer t)
    kind_of (Discard e) = of_if (is_typed (kind_of e)) Void
    kind_of (Signed o t e) = of_if (is_promoted t && is_of (kind_of e) (Integer t)) (Integer t)
    kind_of (Not e) = of_if (is_scalar (kind_of e)) (Integer Int)
    kind_of (Arithmetic o t a b) =
        of_if (is_promoted t && is_of (kind_of a) (Integer t) && is_operand o t (kind_of b)) (Integer t)
    kind_of (Compare o t a b) =
        of_if (is_promoted t && is_of (kind_of a) (Integer t) && is_of (kind_of b) (Integer t)) (Integer Int)
    kind_of (ComparePointers o a b) = of_if (is_pointer (joined (kind_of a) (kind_of b))) (Integer Int)
    kind_of (Move d u a b) = of_if (is_of (kind_of a) (Pointer u) && is_counted (kind_of b)) (Pointer u)
    kind_of (MoveFrom b u a) = of_if (is_counted (kind_of b) && is_of (kind_of a) (Pointer u)) (Pointer u)
    kind_of (Difference u a b) = of_if (is_of (kind_of a) (Pointer u) && is_of (kind_of b) (Pointer u)) (Integer Int)
    kind_of (And a b) = of_if (is_scalar (kind_of a) && is_scalar (kind_of b)) (Integer Int)
    kind_of (Or a b) = of_if (is_scalar (kind_of a) && is_scalar (kind_of b)) (Integer Int)
    kind_of (Conditional c a b) = if is_scalar (kind_of c) then joined (kind_of a) (kind_of b) else Wrong
    kind_of (Comma a b) = if is_typed (kind_of a) then kind_of b else Wrong
    kind_of (Assign s l e) =
        of_if (holds_scalar (object_type l) s && is_place l && is_of (kind_of e) (loaded_type s)) (loaded_type s)
    kind_of (Update o t u l e) =
        of_if (holds_integer (object_type l) t && is_promoted u && is_place l && is_operand o u (kind_of e)) (Integer t)
    kind_of (UpdatePointer d u l e) =
        of_if (holds_pointer (object_type l) u && is_place l && is_counted (kind_of e)) (Pointer u)
    kind_of (Step d g t u l) =
        of_if (holds_integer (object_type l) t && same_integer u (promoted t) && is_place l) (Integer t)
    kind_of (StepPointer d g u l) = of_if (holds_pointer (object_type l) u && is_place l) (Pointer u)
    kind_of (Call c all) = of_if (is_callee p c && are_passed (taken_by p c) all) (given_by (results_of p.functions) c)

    -- an lvalue designates an object of its type
    pub is_place : LvalueTree → Bool
    is_place (Named o of) = is_object p f o of
    is_place (Target of a) = is_of (kind_of a) (Pointer of)
    is_place (Element of a i) = is_of (kind_of a) (Pointer of) && is_counted (kind_of i)
    is_place (ElementFrom of i a) = is_counted (kind_of i) && is_of (kind_of a) (Pointer of)

    -- arguments are of these types
    pub are_passed : List ValueType → ArgumentTrees → Bool
    are_passed [] none = true
    are_passed [] (first e rest) = false
    are_passed (t ∷ more) none = false
    are_passed (t ∷ more) (first e rest) = is_of (kind_of e) t && are_passed more rest
