-- The objects of static storage, as they are at first (ISO/IEC 9899:2011, 6.2.4p3, 6.4.5p6, 6.7.9p10).
use Rattle.std.specs.Prelude.{ℕ, ◌+◌, ◌*◌, ◌==◌, pos, if◌then◌else◌, List, [], ◌∷◌, ◌++◌, length, map, take, drop}
use Rattle.c_tree.specs.declared.types.IntegerType.TheVariants.{Char}
use Rattle.c_tree.specs.declared.object_type.Scalar.{Scalar}
use Rattle.c_tree.specs.declared.object_type.Object as designator
use Rattle.c_tree.specs.declared.object_type.Object.TheVariants as designator-is
use Rattle.c_tree.specs.declared.program.Relocation.{Relocation}
use Rattle.c_tree.specs.Programs.{StaticTree, LiteralTree, ProgramTree}
use Rattle.word_base.specs.Types.{number_of_bits}
use Rattle.word_base.specs.Owners.{Static, Literal}
use Rattle.c_meaning_values.specs.declared.value.Value.{Value}
use Rattle.c_meaning_values.specs.declared.value.Value.TheVariants.{Number, Null, Pointer}
use Rattle.c_meaning_values.specs.declared.value.Phase.TheVariants.{Live}
use Rattle.c_type_rules.specs.Integers.{integer}
use Rattle.c_meaning_values.specs.Types.{integer_size, scalar_size, element_scalar, value_count}
use Rattle.c_meaning_values.specs.Memory.{Object, Memory}
use Rattle.c_places.specs.Places.{numbers_from}

-- the number that bytes spell, the lowest first
abbrev pub spelled : List ℕ → ℕ
spelled [] = 0
spelled (byte ∷ more) = byte + 256 * spelled more

-- the number of an object of static storage: the static objects come first, and the literals behind them
abbrev pub static_number : ProgramTree → designator.Object → ℕ
static_number p (designator-is.Static n) = n
static_number p (designator-is.Literal n) = length p.statics + n
static_number p (designator-is.Automatic n) = n

-- the address in a static object's word
abbrev pub address_at : ProgramTree → List Relocation → ℕ → Value
address_at p [] place = Null
address_at p (r ∷ more) place =
    if r.at == place then Pointer (static_number p r.object) r.offset else address_at p more place

-- the value that a static object of a type has at a byte at first
abbrev pub first_value : ProgramTree → StaticTree → Scalar → (place : ℕ) → Value
first_value p v of place =
    if of.stars == 0
    then Number (number_of_bits (integer of.base) (spelled (take (integer_size of.base) (drop place v.bytes))))
    else address_at p v.relocations place

abbrev pub first_values : ProgramTree → StaticTree → (element : Scalar) → List ℕ → List Value
first_values p v element indices = map (λ i. first_value p v element (i * scalar_size element)) indices

-- An object of static storage lives from the beginning, with the values of its initializer (6.2.4p3, 6.7.9p10).
abbrev pub static_object : ProgramTree → ℕ → StaticTree → Object
static_object p n v =
    record {
      owner = Static n;
      element = element_scalar v.of;
      values = first_values p v (element_scalar v.of) (numbers_from 0 (value_count v.of));
      phase = Live;
    }

-- objects of static storage, numbered from n on
abbrev pub static_objects : ProgramTree → ℕ → List StaticTree → List Object
static_objects p n [] = []
static_objects p n (v ∷ more) = static_object p n v ∷ static_objects p (n + 1) more

-- the object of a string literal (6.4.5p6)
abbrev pub literal_object : ℕ → LiteralTree → Object
literal_object n l =
    record {
      owner = Literal n;
      element = record { base = Char; stars = 0 };
      values = map (λ byte. Number (pos byte)) l.bytes;
      phase = Live;
    }

-- the objects of string literals, numbered from n on
abbrev pub literal_objects : ℕ → List LiteralTree → List Object
literal_objects n [] = []
literal_objects n (l ∷ more) = literal_object n l ∷ literal_objects (n + 1) more

-- the objects with which a run begins
abbrev pub first_memory : ProgramTree → Memory
first_memory p = static_objects p 0 p.statics ++ literal_objects 0 p.literals
