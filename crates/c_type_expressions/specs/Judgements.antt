-- What each construct of an expression makes of what its parts mean, and which rules it may break. A construct reaches
-- from its first token to its last.
use Rattle.std.specs.Prelude.{ℕ, suc, ◌+◌, ◌*◌, ◌%◌, ◌^◌, ◌==◌, ℤ, pos, negsuc, List, [], ◌∷◌, length, Bool, true, false, ◌&&◌, Option, Some, None, if◌then◌else◌}
use Rattle.std.specs.Option.{option_map}
use Rattle.debug_records.specs.declared.source.Spot.{Spot}
use Rattle.debug_records.specs.declared.code.TheConstants.Code.{ARGUMENTS, NOT_AN_LVALUE, OPERAND_TYPES, UNDECLARED, UNEXPECTED_KEYWORD}
use Rattle.c_tree.specs.declared.types.IntegerType.{IntegerType}
use Rattle.c_tree.specs.declared.types.IntegerType.TheVariants.{Char, Int, UnsignedInt}
use Rattle.c_tree.specs.declared.types.Base.{Base}
use Rattle.c_tree.specs.declared.types.Base.TheVariants as base
use Rattle.c_tree.specs.declared.types.TypeName.{TypeName}
use Rattle.c_tree.specs.declared.operator.PrefixOperator.{PrefixOperator}
use Rattle.c_tree.specs.declared.operator.PrefixOperator.TheVariants as prefix
use Rattle.c_tree.specs.declared.operator.AssignmentOperator.{AssignmentOperator}
use Rattle.c_tree.specs.declared.operator.AssignmentOperator.TheVariants as assignment
use Rattle.c_tree.specs.declared.object_type.Scalar.{Scalar}
use Rattle.c_tree.specs.declared.object_type.Object.{Object}
use Rattle.c_tree.specs.declared.object_type.Object.TheVariants as object
use Rattle.c_tree.specs.declared.object_type.ObjectType.{ObjectType}
use Rattle.c_tree.specs.declared.object_type.ObjectType.TheVariants.{Array}
use Rattle.c_tree.specs.declared.object_type.ValueType.{ValueType}
use Rattle.c_tree.specs.declared.object_type.ValueType.TheVariants.{Void, Integer, Pointer}
use Rattle.c_tree.specs.declared.typed_expression.Arithmetic.{Arithmetic}
use Rattle.c_tree.specs.declared.typed_expression.Sign.TheVariants.{Plus, Minus, Complement}
use Rattle.c_tree.specs.declared.typed_expression.Direction.{Direction}
use Rattle.c_tree.specs.declared.typed_expression.Direction.TheVariants.{Up, Down}
use Rattle.c_tree.specs.declared.typed_expression.Given.{Given}
use Rattle.c_tree.specs.declared.typed_expression.Given.TheVariants.{New}
use Rattle.c_tree.specs.declared.typed_expression.Callee.{Callee}
use Rattle.c_tree.specs.TypedExpressions.{RvalueTree, Constant, Null, Convert, Named, Call, ArgumentTrees}
use Rattle.c_tree.specs.TypedExpressions as typed-tree
use Rattle.c_type_rules.specs.declared.constancy.Constancy.{Constancy}
use Rattle.c_type_rules.specs.declared.constancy.Constancy.TheVariants.{Varies, Known, Address}
use Rattle.c_type_rules.specs.Integers.{object_size}
use Rattle.c_type_rules.specs.Types.{loaded_type, value_size}
use Rattle.c_type_rules.specs.Constancies.{converted_constant}
use Rattle.c_type_values.specs.Values.{ValueTree, MeantTree, IsObject, IsValue, as_value, meant_type, converted_value}
use Rattle.c_type_values.specs.Pointers.{address, dereferenced}
use Rattle.c_type_values.specs.Operations.{is_scalar, signed_value, negated, discarded}
use Rattle.c_type_values.specs.Writing.{is_modifiable, is_updatable, stepped, simple_assignment, compound_assignment}
use Rattle.c_type_expressions.specs.declared.names.Meaning.{Meaning}
use Rattle.c_type_expressions.specs.declared.names.Meaning.TheVariants.{Variable, Function, EndOfFile}
use Rattle.c_type_expressions.specs.Names.{SignatureTree}
use Rattle.c_type_expressions.specs.Findings.{FoundTree, Checked, gives, with_one, judged, faulted, with_undefined, with_literal}

-- what an expression means, if it breaks no rule
abbrev pub Meant : Type 0
Meant = Checked (Option MeantTree)

-- the value of an expression
abbrev pub valued : Meant → Checked (Option ValueTree)
valued (gives m s) = gives (option_map as_value m) s

-- a number of an integer type
abbrev pub constant_of_type : IntegerType → ℤ → MeantTree
constant_of_type t z = IsValue (record { of = Integer t; tree = Constant z t; constant = Known z })

-- the address of an object, where it is a constant: that of an object of static storage or a literal
abbrev pub constant_address : Object → Constancy
constant_address (object.Static i) = Address (object.Static i) 0
constant_address (object.Automatic i) = Varies
constant_address (object.Literal k) = Address (object.Literal k) 0

-- a name: a variable, or the constant -1 (E11 for a function, E20 for what is not declared)
abbrev pub meaning_of_name : Option Meaning → Spot → FoundTree → Meant
meaning_of_name (Some (Variable object of)) spot s =
    gives (Some (IsObject of (Named object of) (constant_address object))) s
meaning_of_name (Some EndOfFile) spot s = gives (Some (constant_of_type Int (negsuc 0))) s
meaning_of_name (Some (Function k)) spot s = gives None (faulted UNEXPECTED_KEYWORD spot spot.at s)
meaning_of_name None spot s = gives None (faulted UNDECLARED spot spot.at s)

-- a string literal: an object of its own, an array of `char` with a zero behind its bytes
abbrev pub literal_type : List ℕ → ObjectType
literal_type bytes = Array (record { base = Char; stars = 0 }) (length bytes + 1)

-- a string literal is an array of bytes of its own (C11 6.4.5)
abbrev pub literal_met : Spot → List ℕ → FoundTree → Meant
literal_met first bytes s =
    gives
    (Some
    (IsObject (literal_type bytes) (Named (object.Literal (length s.literals)) (literal_type bytes))
    (Address (object.Literal (length s.literals)) 0)))
    (with_literal first bytes s)

-- E23, but where the flag says that what is written can be
abbrev pub writing : Bool → Spot → ℕ → FoundTree → FoundTree
writing fine first last s = if fine then s else faulted NOT_AN_LVALUE first last s

-- `++` and `--`: on a scalar (E22) that can be written (E23)
abbrev pub stepping : Direction → Given → Spot → ℕ → MeantTree → FoundTree → Meant
stepping d g first last m s =
    if is_scalar (meant_type m) then gives (Some (IsValue (stepped d g m))) (writing (is_modifiable m) first last s)
    else gives None (faulted OPERAND_TYPES first last s)

-- the operators before an operand
abbrev pub prefixed : PrefixOperator → Spot → ℕ → MeantTree → FoundTree → Meant
prefixed prefix.AddressOf first last m = judged (option_map IsValue (address m)) NOT_AN_LVALUE first last
prefixed prefix.Indirection first last m = judged (dereferenced (as_value m)) OPERAND_TYPES first last
prefixed prefix.Plus first last m =
    judged (option_map IsValue (signed_value Plus (as_value m))) OPERAND_TYPES first last
prefixed prefix.Minus first last m =
    judged (option_map IsValue (signed_value Minus (as_value m))) OPERAND_TYPES first last
prefixed prefix.Complement first last m =
    judged (option_map IsValue (signed_value Complement (as_value m))) OPERAND_TYPES first last
prefixed prefix.Not first last m = judged (option_map IsValue (negated (as_value m))) OPERAND_TYPES first last
prefixed prefix.Increment first last m = stepping Up New first last m
prefixed prefix.Decrement first last m = stepping Down New first last m

-- a cast to an integer type: of an integer (E11 for a pointer, E22 for no value)
abbrev pub cast_from : ValueType → IntegerType → Spot → ℕ → ValueTree → FoundTree → Meant
cast_from (Integer u) t first last v s =
    gives (Some (IsValue (record {
      of = Integer t;
      tree = Convert t v.tree;
      constant = converted_constant t v.constant;
    }))) s
cast_from (Pointer of) t first last v s = gives None (faulted UNEXPECTED_KEYWORD first last s)
cast_from Void t first last v s = gives None (faulted OPERAND_TYPES first last s)

-- the value of a cast, which is checked (C11 6.5.4)
abbrev pub cast_to : Base → Spot → ℕ → ValueTree → FoundTree → Meant
cast_to base.Void first last v s = gives (Some (IsValue (discarded v))) s
cast_to (base.Integer t) first last v s = cast_from v.of t first last v s

-- a cast: never to a pointer (E11)
abbrev pub cast_meaning : TypeName → Spot → ℕ → Option ValueTree → FoundTree → Meant
cast_meaning to first last v s =
    if to.stars == 0 then with_one v (cast_to to.base first last) s
    else gives None (faulted UNEXPECTED_KEYWORD first last s)

-- a size, an unsigned int
abbrev pub size_value : ℕ → MeantTree
size_value n = constant_of_type UnsignedInt (pos (n % 2 ^ 32))

-- how many bytes `sizeof` gives of what an expression means; none of no value
abbrev pub size_of : MeantTree → Option ℕ
size_of (IsObject of l k) = Some (object_size of)
size_of (IsValue v) = if is_scalar v.of then Some (value_size v.of) else None

-- `sizeof` of an expression (E22 for no value)
abbrev pub measured : Spot → ℕ → MeantTree → FoundTree → Meant
measured first last m = judged (option_map size_value (size_of m)) OPERAND_TYPES first last

-- how many elements an array has: a positive integer constant expression
abbrev pub array_count : ValueType → Constancy → Option ℕ
array_count (Integer t) (Known (pos (suc n))) = Some (suc n)
array_count _ _ = None

-- the size of an array type in `sizeof`, of so many bytes an element (E11)
abbrev pub sized : ℕ → Spot → ℕ → ValueTree → FoundTree → Meant
sized element first last v =
    judged (option_map (λ n. size_value (element * n)) (array_count v.of v.constant)) UNEXPECTED_KEYWORD first last

-- `=`: a value as if assigned to the left side's type (E22), which can be written (E23)
abbrev pub assignable : ValueType → ValueTree → Bool → Option ValueTree
assignable Void v zero = None
assignable to v zero = converted_value v to zero

-- the value of an assignment, of which the left side is checked to be modifiable (C11 6.5.16)
abbrev pub assigning : Option ValueTree → Spot → ℕ → MeantTree → FoundTree → Meant
assigning (Some v) first last m s =
    gives (Some (IsValue (simple_assignment m (Some v)))) (writing (is_modifiable m) first last s)
assigning None first last m s =
    gives (Some (IsValue (simple_assignment m None)))
    (writing (is_modifiable m) first last (faulted OPERAND_TYPES first last s))

-- `+=` and the like: types that the operator takes (E22), on what can be written (E23)
abbrev pub updating : Arithmetic → Spot → ℕ → MeantTree → ValueTree → FoundTree → Meant
updating o first last m v s =
    gives (Some (IsValue (compound_assignment o m v)))
    (writing (is_modifiable m) first last
    (if is_updatable o (meant_type m) v.of then s else faulted OPERAND_TYPES first last s))

-- an assignment; the flag says that its right side is a constant token 0
abbrev pub assignment_by : AssignmentOperator → Bool → Spot → ℕ → MeantTree → ValueTree → FoundTree → Meant
assignment_by assignment.Assign zero first last m v = assigning (assignable (meant_type m) v zero) first last m
assignment_by (assignment.With o) zero first last m v = updating o first last m v

-- arguments as they are passed, and whether each fits its parameter and there is one for each
pub record Passed : Type 0 where
  pub trees : ArgumentTrees
  pub fit : Bool

-- an argument as its parameter's value, and whether it fits; one with a fault of its own breaks no other rule
abbrev pub passed_as : Option ValueTree → RvalueTree × Bool
passed_as (Some v) = (v.tree, true)
passed_as None = (Null, false)

-- the argument as the parameter takes it, and whether it may be passed
abbrev pub passed_to : Option Scalar → Option ValueTree → Bool → RvalueTree × Bool
passed_to None v zero = (Null, false)
passed_to (Some p) None zero = (Null, true)
passed_to (Some p) (Some v) zero = passed_as (converted_value v (loaded_type p) zero)

-- arguments before others
abbrev pub behind : List RvalueTree → ArgumentTrees → ArgumentTrees
behind [] all = all
behind (r ∷ rs) all = typed-tree.first r (behind rs all)

-- arguments in a list of the tree's own
abbrev pub argument_chain : List RvalueTree → ArgumentTrees
argument_chain rs = behind rs typed-tree.none

abbrev pub with_passed : List RvalueTree → Bool → Checked Passed → Checked Passed
with_passed trees fit (gives q s) = gives (record { trees = behind trees q.trees; fit = fit && q.fit }) s

-- an argument before others
abbrev pub argument_before : RvalueTree × Bool → Passed → FoundTree → Checked Passed
argument_before one q = gives (record { trees = typed-tree.first one.0 q.trees; fit = one.1 && q.fit })

-- a call of what has a type but is no function (E22)
abbrev pub uncallable : Spot → ℕ → Option ValueTree → FoundTree → Meant
uncallable first last (Some v) s = gives None (faulted OPERAND_TYPES first last s)
uncallable first last None s = gives None s

-- a call of a function: a call of one that is never defined is noted for later
abbrev pub noted : Option Callee → Spot → FoundTree → FoundTree
noted (Some c) first s = s
noted None first s = with_undefined first s

-- the typed tree of a call of what was found to be called
abbrev pub call_tree : Option Callee → ArgumentTrees → RvalueTree
call_tree (Some c) all = Call c all
call_tree None all = Null

-- a call's value is of the result's type; the arguments must fit (E24)
abbrev pub called : SignatureTree → Spot → ℕ → Passed → FoundTree → Meant
called g first last q s =
    gives (Some (IsValue (record {
      of = g.result;
      tree = call_tree g.callee q.trees;
      constant = Varies;
    }))) (if q.fit then s else faulted ARGUMENTS first last s)
