-- What the constants in an accepted source are: numbers, null pointers, and addresses of objects of static storage with
-- their types (ISO/IEC 9899:2011, 6.6).
use Rattle.std.specs.Prelude.{ℕ, zero, suc, ◌%◌, ◌==◌, ◌&&◌, nat_le, ℤ, pos, negsuc, Bool, true, false, Option, Some, None, is_some, slice_get}
use Rattle.c_tree.specs.declared.types.IntegerType.TheVariants.{Char}
use Rattle.c_tree.specs.declared.object_type.Scalar.{Scalar}
use Rattle.c_tree.specs.declared.object_type.ObjectType.{ObjectType}
use Rattle.c_tree.specs.declared.object_type.ValueType.{ValueType}
use Rattle.c_tree.specs.declared.object_type.ValueType.TheVariants.{Void, Integer, Pointer}
use Rattle.c_tree.specs.declared.object_type.Object as designator
use Rattle.c_tree.specs.declared.object_type.Object.TheVariants as object
use Rattle.c_tree.specs.Programs.{StaticTree, ProgramTree}
use Rattle.c_type_rules.specs.declared.constancy.Constancy.{Constancy}
use Rattle.c_type_rules.specs.declared.constancy.Constancy.TheVariants.{Varies, Formed, Known, Address}
use Rattle.c_type_rules.specs.Integers.{object_size, scalar_size}
use Rattle.c_type_rules.specs.Types.{same_scalar}
use Rattle.c_type_laws.specs.Objects.{element_of}

-- an offset in an object of a type that has such elements: that of an element, or directly behind the last one
abbrev pub is_offset : Scalar → ℕ → ObjectType → Bool
is_offset element offset of =
    same_scalar (element_of of) element && nat_le offset (object_size of) && offset % scalar_size (element_of of) == 0

-- the same in an object that has to be there
abbrev pub is_offset_if : Scalar → ℕ → Option StaticTree → Bool
is_offset_if element offset None = false
is_offset_if element offset (Some v) = is_offset element offset v.of

-- an address in an object of static storage with such elements, or of the beginning of a literal
abbrev pub is_address_of : ProgramTree → Scalar → designator.Object → ℕ → Bool
is_address_of p element (object.Static n) offset = is_offset_if element offset (slice_get p.statics n)
is_address_of p element (object.Literal n) offset =
    is_some (slice_get p.literals n) && offset == 0 && same_scalar element (record { base = Char; stars = 0 })
is_address_of p element (object.Automatic x) offset = false

-- the number zero
abbrev pub is_nothing : ℤ → Bool
is_nothing (pos zero) = true
is_nothing (pos (suc n)) = false
is_nothing (negsuc n) = false

-- what leads to such elements, if it is a constant: an address, or the null pointer
abbrev pub leads_to : ProgramTree → Scalar → Constancy → Bool
leads_to p element Varies = true
leads_to p element Formed = true
leads_to p element (Known z) = is_nothing z
leads_to p element (Address o offset) = is_address_of p element o offset

-- what is no address
abbrev pub is_number : Constancy → Bool
is_number Varies = true
is_number Formed = true
is_number (Known z) = true
is_number (Address o offset) = false

-- a constant of a type
abbrev pub is_constant_of : ProgramTree → ValueType → Constancy → Bool
is_constant_of p Void k = true
is_constant_of p (Integer t) k = is_number k
is_constant_of p (Pointer of) k = leads_to p (element_of of) k
