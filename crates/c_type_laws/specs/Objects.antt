-- What the objects of an accepted program keep.
use Rattle.std.specs.Prelude.{ℕ, ◌%◌, ◌==◌, ◌&&◌, ◌||◌, nat_le, Bool, true, false, Option, Some, None, is_some, List, [], ◌∷◌, length, map, slice_get}
use Rattle.c_tree.specs.declared.object_type.Scalar.{Scalar}
use Rattle.c_tree.specs.declared.object_type.ObjectType.{ObjectType}
use Rattle.c_tree.specs.declared.object_type.ObjectType.TheVariants as of-object
use Rattle.c_tree.specs.declared.object_type.ValueType.TheVariants.{Pointer}
use Rattle.c_tree.specs.declared.object_type.Object as designator
use Rattle.c_tree.specs.declared.object_type.Object.TheVariants as object
use Rattle.c_tree.specs.declared.program.Relocation.{Relocation}
use Rattle.c_tree.specs.Programs.{AutomaticTree, LiteralTree, StaticTree, ProgramTree}
use Rattle.c_type_rules.specs.Integers.{object_size, scalar_size}
use Rattle.c_type_rules.specs.Types.{loaded_type, same_value}
use Rattle.c_type_laws.specs.Orders.{ascends}

-- the type of a scalar, or of an array's elements
abbrev pub element_of : ObjectType → Scalar
element_of (of-object.Scalar s) = s
element_of (of-object.Array element count) = element

-- an array has elements, and is kept in memory
abbrev pub is_kept_array : Bool → ObjectType → Bool
is_kept_array in_memory (of-object.Scalar s) = true
is_kept_array in_memory (of-object.Array element count) = nat_le 1 count && in_memory

abbrev pub arrays_are_kept : List AutomaticTree → Bool
arrays_are_kept [] = true
arrays_are_kept (a ∷ more) = is_kept_array a.in_memory a.of && arrays_are_kept more

-- a literal has its final zero
abbrev pub are_ended : List LiteralTree → Bool
are_ended [] = true
are_ended (l ∷ more) = nat_le 1 (length l.bytes) && are_ended more

-- An address is that of an element of an object, or directly behind the last one, and a pointer to such elements holds
-- it.
abbrev pub is_address : Scalar → (offset : ℕ) → ObjectType → Bool
is_address pointer offset of =
    same_value (loaded_type pointer) (Pointer (of-object.Scalar (element_of of))) && nat_le offset (object_size of)
    && offset % scalar_size (element_of of) == 0

abbrev pub is_address_if : Scalar → (offset : ℕ) → Option StaticTree → Bool
is_address_if pointer offset None = false
is_address_if pointer offset (Some w) = is_address pointer offset w.of

-- A word of a static object holds the address of an object: of a static one as above, or the beginning of a literal.
abbrev pub holds_address : ProgramTree → (pointer : Scalar) → (offset : ℕ) → designator.Object → Bool
holds_address p pointer offset (object.Static n) = is_address_if pointer offset (slice_get p.statics n)
holds_address p pointer offset (object.Literal n) =
    is_some (slice_get p.literals n) && offset == 0 && scalar_size pointer == 4
holds_address p pointer offset (object.Automatic x) = false

abbrev pub hold_addresses : ProgramTree → (pointer : Scalar) → List Relocation → Bool
hold_addresses p pointer [] = true
hold_addresses p pointer (r ∷ more) = holds_address p pointer r.offset r.object && hold_addresses p pointer more

abbrev pub are_zero : List ℕ → Bool
are_zero [] = true
are_zero (b ∷ more) = b == 0 && are_zero more

abbrev pub spots_of : List Relocation → List ℕ
spots_of all = map (λ (r : Relocation). r.at) all

-- A static object has no more bytes than there is room for, its addresses are addresses, in order, and a pointer that
-- is none is null.
abbrev pub is_static : ProgramTree → StaticTree → Bool
is_static p v =
    nat_le (length v.bytes) (object_size v.of) && hold_addresses p (element_of v.of) v.relocations
    && ascends (spots_of v.relocations) && ((element_of v.of).stars == 0 || are_zero v.bytes)

abbrev pub are_static : ProgramTree → List StaticTree → Bool
are_static p [] = true
are_static p (v ∷ more) = is_static p v && are_static p more
