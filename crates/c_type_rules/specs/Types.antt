-- Types of objects and values (6.2.5).
use Rattle.std.specs.Prelude.{ℕ, ◌-◌, Bool, true, false, ◌&&◌, ◌==◌, if◌then◌else◌}
use Rattle.c_tree.specs.declared.types.IntegerType.{IntegerType}
use Rattle.c_tree.specs.declared.types.IntegerType.TheVariants.{Char, SignedChar, UnsignedChar, Short, UnsignedShort, Int, UnsignedInt, Long, UnsignedLong}
use Rattle.c_tree.specs.declared.object_type.Scalar.{Scalar}
use Rattle.c_tree.specs.declared.object_type.ObjectType.{ObjectType}
use Rattle.c_tree.specs.declared.object_type.ObjectType.TheVariants as object
use Rattle.c_tree.specs.declared.object_type.ValueType.{ValueType}
use Rattle.c_tree.specs.declared.object_type.ValueType.TheVariants as value
use Rattle.c_type_rules.specs.Integers.{integer_size}

-- each integer type has a number of its own
abbrev pub type_number : IntegerType → ℕ
type_number Char = 0
type_number SignedChar = 1
type_number UnsignedChar = 2
type_number Short = 3
type_number UnsignedShort = 4
type_number Int = 5
type_number UnsignedInt = 6
type_number Long = 7
type_number UnsignedLong = 8

-- two integer types are one
abbrev pub same_integer : IntegerType → IntegerType → Bool
same_integer t u = type_number t == type_number u

-- two scalar types are one
abbrev pub same_scalar : Scalar → Scalar → Bool
same_scalar a b = same_integer a.base b.base && a.stars == b.stars

-- two types of objects are one
abbrev pub same_object : ObjectType → ObjectType → Bool
same_object (object.Scalar a) (object.Scalar b) = same_scalar a b
same_object (object.Array e n) (object.Array f m) = same_scalar e f && n == m
same_object _ _ = false

-- two types of values are one
abbrev pub same_value : ValueType → ValueType → Bool
same_value value.Void value.Void = true
same_value (value.Integer t) (value.Integer u) = same_integer t u
same_value (value.Pointer a) (value.Pointer b) = same_object a b
same_value _ _ = false

-- the type of the objects that a pointer of a scalar type leads to: one star less
abbrev pub pointed_to : Scalar → Scalar
pointed_to s = record { base = s.base; stars = s.stars - 1 }

-- the type of what an object of a scalar type holds
abbrev pub loaded_type : Scalar → ValueType
loaded_type s = if s.stars == 0 then value.Integer s.base else value.Pointer (object.Scalar (pointed_to s))

-- how many bytes a value of a type has; `void` has none
abbrev pub value_size : ValueType → ℕ
value_size value.Void = 0
value_size (value.Integer t) = integer_size t
value_size (value.Pointer of) = 4
