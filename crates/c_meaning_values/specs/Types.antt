-- The types of a program: how many bytes they have (ISO/IEC 9899:2011, 6.2.5, 6.5.3.4).
use Rattle.std.specs.Prelude.{ℕ, zero, suc, ◌*◌, pos}
use Rattle.c_tree.specs.declared.types.IntegerType.{IntegerType}
use Rattle.c_tree.specs.declared.types.IntegerType.TheVariants.{Char, SignedChar, UnsignedChar, Short, UnsignedShort, Int, UnsignedInt, Long, UnsignedLong}
use Rattle.c_tree.specs.declared.object_type.Scalar.{Scalar}
use Rattle.c_tree.specs.declared.object_type.ObjectType.{ObjectType}
use Rattle.c_tree.specs.declared.object_type.ObjectType.TheVariants as type
use Rattle.c_meaning_values.specs.declared.value.Value.{Value}
use Rattle.c_meaning_values.specs.declared.value.Value.TheVariants.{Number, Null}
pub use Rattle.c_type_rules.specs.Integers.{integer_size}

-- by how many `*` a type leads to an integer type: with none it has the integer type's bytes, a pointer has 4
abbrev pub size_by_stars : IntegerType → ℕ → ℕ
size_by_stars base zero = integer_size base
size_by_stars base (suc stars) = 4

-- how many bytes an integer or a pointer has
abbrev pub scalar_size : Scalar → ℕ
scalar_size s = size_by_stars s.base s.stars

-- how many bytes an object of a type has
abbrev pub size : ObjectType → ℕ
size (type.Scalar s) = scalar_size s
size (type.Array element count) = count * scalar_size element

-- the type of the values that an object holds
abbrev pub element_scalar : ObjectType → Scalar
element_scalar (type.Scalar s) = s
element_scalar (type.Array element count) = element

-- how many values an object holds
abbrev pub value_count : ObjectType → ℕ
value_count (type.Scalar s) = 1
value_count (type.Array element count) = count

abbrev pub zero_by_stars : ℕ → Value
zero_by_stars zero = Number (pos 0)
zero_by_stars (suc stars) = Null

-- the value of a type that is zero: the number 0, or the null pointer (6.7.9p10)
abbrev pub zero_of : Scalar → Value
zero_of s = zero_by_stars s.stars
