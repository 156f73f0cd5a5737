-- What the static storage of an accepted program keeps beyond its addresses: its bytes are bytes, and what holds the
-- address of a literal is a pointer to `char` (ISO/IEC 9899:2011, 6.4.5p6).
use Rattle.std.specs.Prelude.{ℕ, Bool, true, ◌&&◌, nat_lt, List, [], ◌∷◌}
use Rattle.c_tree.specs.declared.types.IntegerType.TheVariants.{Char}
use Rattle.c_tree.specs.declared.object_type.Scalar.{Scalar}
use Rattle.c_tree.specs.declared.object_type.ObjectType.TheVariants as of-object
use Rattle.c_tree.specs.declared.object_type.ValueType.TheVariants.{Pointer}
use Rattle.c_tree.specs.declared.object_type.Object as designator
use Rattle.c_tree.specs.declared.object_type.Object.TheVariants as object
use Rattle.c_tree.specs.declared.program.Relocation.{Relocation}
use Rattle.c_tree.specs.Programs.{LiteralTree, StaticTree}
use Rattle.c_type_rules.specs.Types.{loaded_type, same_value}
use Rattle.c_type_laws.specs.Objects.{element_of}

-- numbers below 256
abbrev pub are_bytes : List ℕ → Bool
are_bytes [] = true
are_bytes (b ∷ more) = nat_lt b 256 && are_bytes more

-- what holds the address of a literal is a pointer to `char`
abbrev pub suits : (pointer : Scalar) → designator.Object → Bool
suits pointer (object.Static n) = true
suits pointer (object.Literal n) =
    same_value (loaded_type pointer) (Pointer (of-object.Scalar (record { base = Char; stars = 0 })))
suits pointer (object.Automatic x) = true

-- so is each word of these that holds one
abbrev pub all_suit : (pointer : Scalar) → List Relocation → Bool
all_suit pointer [] = true
all_suit pointer (r ∷ more) = suits pointer r.object && all_suit pointer more

-- static objects of bytes, whose addresses of literals stand in such pointers
abbrev pub statics_sound : List StaticTree → Bool
statics_sound [] = true
statics_sound (v ∷ more) = are_bytes v.bytes && all_suit (element_of v.of) v.relocations && statics_sound more

-- literals of bytes
abbrev pub literals_sound : List LiteralTree → Bool
literals_sound [] = true
literals_sound (l ∷ more) = are_bytes l.bytes && literals_sound more
