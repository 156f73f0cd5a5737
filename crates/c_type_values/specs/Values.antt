-- What expressions mean: objects, or values with their types.
use Rattle.std.specs.Prelude.{pos, Bool, false, Option, Some, None, Box, if◌then◌else◌}
use Rattle.std.specs.Global.{Global}
use Rattle.c_tree.specs.declared.types.IntegerType.{IntegerType}
use Rattle.c_tree.specs.declared.object_type.ObjectType.{ObjectType}
use Rattle.c_tree.specs.declared.object_type.ObjectType.TheVariants as object
use Rattle.c_tree.specs.declared.object_type.ValueType.{ValueType}
use Rattle.c_tree.specs.declared.object_type.ValueType.TheVariants.{Integer, Pointer}
use Rattle.c_tree.specs.declared.typed_expression.Rvalue.{Rvalue}
use Rattle.c_tree.specs.TypedExpressions.{RvalueTree, LvalueTree, Load, Decay, Convert, Null, rvalue_view, lvalue_view}
use Rattle.c_type_rules.specs.declared.constancy.Constancy.{Constancy}
use Rattle.c_type_rules.specs.declared.constancy.Constancy.TheVariants.{Varies, Known}
use Rattle.c_type_rules.specs.Types.{loaded_type, same_integer, same_value}
use Rattle.c_type_rules.specs.Constancies.{converted_constant}
use Rattle.c_type_values.specs.declared.value.Value.{Value}
use Rattle.c_type_values.specs.declared.value.Meant as declared-meant
use Rattle.c_type_values.specs.declared.value.Meant.TheVariants as meant

-- a value with its type, and whether it is a constant expression
pub record ValueTree : Type 0 where
  pub of : ValueType
  pub tree : RvalueTree
  pub constant : Constancy

-- a node on the heap
abbrev pub node_view : Box Rvalue Global → RvalueTree
node_view b = rvalue_view b.value

abbrev pub value_view : Value → ValueTree
value_view v = record { of = v.of; tree = node_view v.tree; constant = v.constant }

-- an object of a type, with its address where that is a constant; or a value
pub data MeantTree : Type 0 where
  IsObject : ObjectType → LvalueTree → Constancy → MeantTree
  IsValue : ValueTree → MeantTree

abbrev pub meant_view : declared-meant.Meant → MeantTree
meant_view (meant.Object of tree constant) = IsObject of (lvalue_view tree.value) constant
meant_view (meant.Value v) = IsValue (value_view v)

-- the value of an expression: what an object of a scalar type holds, and a pointer to the first element of an array
-- (6.3.2.1)
abbrev pub as_value : MeantTree → ValueTree
as_value (IsValue v) = v
as_value (IsObject (object.Scalar s) l k) = record { of = loaded_type s; tree = Load s l; constant = Varies }
as_value (IsObject (object.Array element count) l k) =
    record { of = Pointer (object.Scalar element); tree = Decay l; constant = k }

-- the type of the value of an expression
abbrev pub meant_type : MeantTree → ValueType
meant_type m = (as_value m).of

-- a type is this integer type
abbrev pub is_integer_of : ValueType → IntegerType → Bool
is_integer_of (Integer u) t = same_integer u t
is_integer_of _ t = false

-- an integer as one of a type
unfoldable pub to_integer : IntegerType → ValueTree → ValueTree
to_integer t v =
    if is_integer_of v.of t then v else record {
      of = Integer t;
      tree = Convert t v.tree;
      constant = converted_constant t v.constant;
    }

-- the null pointer of a type
abbrev pub null : ValueType → ValueTree
null of = record { of = of; tree = Null; constant = Known (pos 0) }

-- a value of a type, where it is of that type
abbrev pub unchanged : ValueTree → ValueType → Option ValueTree
unchanged v to = if same_value v.of to then Some v else None

-- a value as if assigned to an object that holds values of a type: an integer is converted to any integer type, a
-- pointer only to its own, and a constant token 0 to the null pointer (6.5.16.1)
abbrev pub converted_from : ValueType → ValueType → ValueTree → Bool → Option ValueTree
converted_from (Integer t) (Integer u) v zero = Some (to_integer t v)
converted_from (Pointer of) (Integer u) v zero = if zero then Some (null (Pointer of)) else None
converted_from to of v zero = unchanged v to

-- a value converted to a type as if by assignment, if it can be (C11 6.5.16.1)
abbrev pub converted_value : ValueTree → ValueType → Bool → Option ValueTree
converted_value v to zero = converted_from to v.of v zero
