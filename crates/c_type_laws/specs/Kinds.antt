-- What the value of a well typed expression is: of a type, or a null pointer, which is of each pointer type.
use Rattle.std.specs.Prelude.{ℕ, ◌+◌, ◌&&◌, nat_le, nat_lt, Bool, true, false, Option, Some, None, is_some, List, [], ◌∷◌, map, slice_get, take, drop, length, if◌then◌else◌}
use Rattle.c_tree.specs.declared.types.IntegerType.{IntegerType}
use Rattle.c_tree.specs.declared.types.IntegerType.TheVariants.{Char, Int}
use Rattle.c_tree.specs.declared.object_type.Scalar.{Scalar}
use Rattle.c_tree.specs.declared.object_type.ObjectType.{ObjectType}
use Rattle.c_tree.specs.declared.object_type.ObjectType.TheVariants as of-object
use Rattle.c_tree.specs.declared.object_type.ValueType.{ValueType}
use Rattle.c_tree.specs.declared.object_type.ValueType.TheVariants.{Void, Integer, Pointer}
use Rattle.c_tree.specs.declared.object_type.Object as designator
use Rattle.c_tree.specs.declared.object_type.Object.TheVariants as object
use Rattle.c_tree.specs.declared.typed_expression.Arithmetic as declared-arithmetic
use Rattle.c_tree.specs.declared.typed_expression.Arithmetic.TheVariants.{ShiftLeft, ShiftRight}
use Rattle.c_tree.specs.declared.typed_expression.Callee as declared-callee
use Rattle.c_tree.specs.declared.typed_expression.Callee.TheVariants as callee
use Rattle.c_tree.specs.Programs.{AutomaticTree, LiteralTree, StaticTree, TypedFunctionTree, ProgramTree}
use Rattle.c_type_rules.specs.Integers.{promoted}
use Rattle.c_type_rules.specs.Types.{loaded_type, same_integer, same_object, same_value}
use Rattle.c_type_laws.specs.Kind.{Kind, Wrong, NullPointer, Of}

-- a value of a type, if what it is made of fits
abbrev pub of_if : Bool → ValueType → Kind
of_if fits t = if fits then Of t else Wrong

abbrev pub is_pointer_type : ValueType → Bool
is_pointer_type Void = false
is_pointer_type (Integer t) = false
is_pointer_type (Pointer of) = true

abbrev pub is_scalar_type : ValueType → Bool
is_scalar_type Void = false
is_scalar_type (Integer t) = true
is_scalar_type (Pointer of) = true

-- a type that arithmetic is done in
abbrev pub is_promoted : IntegerType → Bool
is_promoted t = same_integer (promoted t) t

abbrev pub is_integer_type : ValueType → Bool
is_integer_type Void = false
is_integer_type (Integer t) = true
is_integer_type (Pointer of) = false

abbrev pub is_promoted_type : ValueType → Bool
is_promoted_type Void = false
is_promoted_type (Integer t) = is_promoted t
is_promoted_type (Pointer of) = false

-- a value is of a type
abbrev pub is_of : Kind → ValueType → Bool
is_of Wrong t = false
is_of NullPointer t = is_pointer_type t
is_of (Of u) t = same_value u t

-- an expression is well typed
abbrev pub is_typed : Kind → Bool
is_typed Wrong = false
is_typed NullPointer = true
is_typed (Of t) = true

-- it has a value that can be tested: an integer or a pointer
abbrev pub is_scalar : Kind → Bool
is_scalar Wrong = false
is_scalar NullPointer = true
is_scalar (Of t) = is_scalar_type t

abbrev pub is_pointer : Kind → Bool
is_pointer Wrong = false
is_pointer NullPointer = true
is_pointer (Of t) = is_pointer_type t

abbrev pub is_integer : Kind → Bool
is_integer Wrong = false
is_integer NullPointer = false
is_integer (Of t) = is_integer_type t

-- an integer of a promoted type
abbrev pub is_counted : Kind → Bool
is_counted Wrong = false
is_counted NullPointer = false
is_counted (Of t) = is_promoted_type t

-- what two values are of that are of one type
abbrev pub joined : Kind → Kind → Kind
joined Wrong b = Wrong
joined NullPointer Wrong = Wrong
joined NullPointer NullPointer = NullPointer
joined NullPointer (Of t) = of_if (is_pointer_type t) t
joined (Of t) Wrong = Wrong
joined (Of t) NullPointer = of_if (is_pointer_type t) t
joined (Of t) (Of u) = of_if (same_value t u) t

-- the right operand of an operator in a type: of that type, and of a shift of any promoted one
abbrev pub is_operand : declared-arithmetic.Arithmetic → IntegerType → Kind → Bool
is_operand ShiftLeft t k = is_counted k
is_operand ShiftRight t k = is_counted k
is_operand _ t k = is_of k (Integer t)

-- an object holds a scalar of a type
abbrev pub holds_scalar : ObjectType → Scalar → Bool
holds_scalar of s = same_object of (of-object.Scalar s)

abbrev pub holds_integer : ObjectType → IntegerType → Bool
holds_integer of t = holds_scalar of (record { base = t; stars = 0 })

-- an object holds a pointer to elements of a type
abbrev pub holds_pointer : ObjectType → (element : ObjectType) → Bool
holds_pointer (of-object.Scalar s) element = same_value (loaded_type s) (Pointer element)
holds_pointer (of-object.Array s count) element = false

-- an array, which has elements
abbrev pub is_array : ObjectType → Bool
is_array (of-object.Scalar s) = false
is_array (of-object.Array s count) = nat_le 1 count

-- the type of a scalar, and of an array's elements
abbrev pub element_type : ObjectType → ValueType
element_type (of-object.Scalar s) = loaded_type s
element_type (of-object.Array s count) = loaded_type s

abbrev pub static_is : Option StaticTree → ObjectType → Bool
static_is None of = false
static_is (Some v) of = same_object v.of of

abbrev pub literal_is : Option LiteralTree → ObjectType → Bool
literal_is None of = false
literal_is (Some l) of = same_object (of-object.Array (record { base = Char; stars = 0 }) (length l.bytes)) of

abbrev pub automatic_is : Option AutomaticTree → ObjectType → Bool
automatic_is None of = false
automatic_is (Some a) of = same_object a.of of

-- a variable is one of a function
abbrev pub is_variable : TypedFunctionTree → ℕ → Bool
is_variable f x = nat_le f.first_variable x && nat_lt x (f.first_variable + f.variables)

-- A name designates an object of the program of this type; an automatic one is a variable of the function.
abbrev pub is_object : ProgramTree → TypedFunctionTree → designator.Object → ObjectType → Bool
is_object p f (object.Static n) of = static_is (slice_get p.statics n) of
is_object p f (object.Literal n) of = literal_is (slice_get p.literals n) of
is_object p f (object.Automatic x) of = is_variable f x && automatic_is (slice_get p.automatics x) of

-- the parameters of a function that there may be
abbrev pub parameters_in : List AutomaticTree → Option TypedFunctionTree → List AutomaticTree
parameters_in all None = []
parameters_in all (Some g) = take g.parameters (drop g.first_variable all)

abbrev pub types_of : List AutomaticTree → List ValueType
types_of all = map (λ (a : AutomaticTree). element_type a.of) all

-- what is called is there
abbrev pub is_callee : ProgramTree → declared-callee.Callee → Bool
is_callee p (callee.Function n) = is_some (slice_get p.functions n)
is_callee p callee.Getchar = true
is_callee p callee.Putchar = true
is_callee p callee.Exit = true

-- the types of the arguments that a call takes
abbrev pub taken_by : ProgramTree → declared-callee.Callee → List ValueType
taken_by p (callee.Function n) = types_of (parameters_in p.automatics (slice_get p.functions n))
taken_by p callee.Getchar = []
taken_by p callee.Putchar = Integer Int ∷ []
taken_by p callee.Exit = Integer Int ∷ []

-- the type of what a function gives, if there is one
abbrev pub result_in : Option TypedFunctionTree → ValueType
result_in None = Void
result_in (Some f) = f.result
