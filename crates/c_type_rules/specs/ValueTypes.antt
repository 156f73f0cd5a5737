-- The types of the values of typed expressions, told from their trees (ISO/IEC 9899:2011, 6.5).
use Rattle.std.specs.Prelude.{Bool, true, false, List, map, slice_get, unwrap_or}
use Rattle.c_tree.specs.declared.types.IntegerType.{IntegerType}
use Rattle.c_tree.specs.declared.types.IntegerType.TheVariants.{Char, Int}
use Rattle.c_tree.specs.declared.object_type.ObjectType.{ObjectType}
use Rattle.c_tree.specs.declared.object_type.ObjectType.TheVariants as object
use Rattle.c_tree.specs.declared.object_type.ValueType.{ValueType}
use Rattle.c_tree.specs.declared.object_type.ValueType.TheVariants.{Void, Integer, Pointer}
use Rattle.c_tree.specs.declared.typed_expression.Callee as declared-callee
use Rattle.c_tree.specs.declared.typed_expression.Callee.TheVariants as callee
use Rattle.c_tree.specs.TypedExpressions.{RvalueTree, LvalueTree, Constant, Null, Load, Decay, AddressOf, Convert, Discard, Signed, Not, Arithmetic, Compare, ComparePointers, Move, MoveFrom, Difference, And, Or, Conditional, Comma, Assign, Update, UpdatePointer, Step, StepPointer, Call, Named, Target, Element, ElementFrom}
use Rattle.c_tree.specs.Programs.{TypedFunctionTree}
use Rattle.c_type_rules.specs.Types.{loaded_type}

-- the types of what functions give, by their numbers
abbrev pub results_of : List TypedFunctionTree → List ValueType
results_of functions = map (λ (f : TypedFunctionTree). f.result) functions

-- the type of the object that an lvalue designates
abbrev pub object_type : LvalueTree → ObjectType
object_type (Named o of) = of
object_type (Target of p) = of
object_type (Element of p i) = of
object_type (ElementFrom of i p) = of

-- the type of a pointer to the first element of an array
abbrev pub decayed : ObjectType → ValueType
decayed (object.Scalar s) = Void
decayed (object.Array element count) = Pointer (object.Scalar element)

-- a pointer to characters
abbrev pub character_pointer : ValueType
character_pointer = Pointer (object.Scalar (record { base = Char; stars = 0 }))

module _ (results : List ValueType) where
  -- the type of what a call gives
  abbrev pub given_by : declared-callee.Callee → ValueType
  given_by (callee.Function f) = unwrap_or (slice_get results f) Void
  given_by callee.Getchar = Integer Int
  given_by callee.Putchar = Integer Int
  given_by callee.Exit = Void

  -- The type of an expression's value. The null pointer is of each pointer type: here it stands for a pointer to
  -- characters.
  abbrev pub type_of : RvalueTree → ValueType
  type_of (Constant z t) = Integer t
  type_of Null = character_pointer
  type_of (Load s l) = loaded_type s
  type_of (Decay l) = decayed (object_type l)
  type_of (AddressOf l) = Pointer (object_type l)
  type_of (Convert t e) = Integer t
  type_of (Discard e) = Void
  type_of (Signed o t e) = Integer t
  type_of (Not e) = Integer Int
  type_of (Arithmetic o t a b) = Integer t
  type_of (Compare o t a b) = Integer Int
  type_of (ComparePointers o a b) = Integer Int
  type_of (Move d of p n) = Pointer of
  type_of (MoveFrom n of p) = Pointer of
  type_of (Difference of a b) = Integer Int
  type_of (And a b) = Integer Int
  type_of (Or a b) = Integer Int
  type_of (Conditional c a b) = type_of a
  type_of (Comma a b) = type_of b
  type_of (Assign s l e) = loaded_type s
  type_of (Update o t u l e) = Integer t
  type_of (UpdatePointer d of l e) = Pointer of
  type_of (Step d g t u l) = Integer t
  type_of (StepPointer d g of l) = Pointer of
  type_of (Call f all) = given_by f

-- no value
abbrev pub is_void : ValueType → Bool
is_void Void = true
is_void (Integer t) = false
is_void (Pointer of) = false

-- a pointer
abbrev pub is_pointer : ValueType → Bool
is_pointer Void = false
is_pointer (Integer t) = false
is_pointer (Pointer of) = true

-- the integer type of a value, `int` for one of no integer type
abbrev pub integer_in : ValueType → IntegerType
integer_in Void = Int
integer_in (Integer t) = t
integer_in (Pointer of) = Int
