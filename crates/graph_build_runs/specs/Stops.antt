-- What is so of each stop of a program's run, whatever is made of the program.
use Rattle.std.specs.Prelude.{◌≡◌, ℕ, ◌-◌, ◌≤◌, true, false, ℤ, Some, List, map, length, slice_get}
use Rattle.word_base.specs.Owners.{Owner, Static, Literal, Variable}
use Rattle.word_base.specs.Types.{holds}
use Rattle.c_tree.specs.declared.types.IntegerType.TheVariants.{Char, Int}
use Rattle.c_tree.specs.Programs.{AutomaticTree, StaticTree, LiteralTree, ProgramTree}
use Rattle.c_type_rules.specs.Integers.{integer}
use Rattle.c_places.specs.Places.{Place, places_of_program, visible}
use Rattle.c_meaning_values.specs.declared.value.Phase.TheVariants.{Live}
use Rattle.c_meaning_values.specs.Types.{element_scalar, value_count}
use Rattle.c_meaning_values.specs.Memory.{Object, Memory, contents}
use Rattle.c_meaning_steps.specs.States.{Shown}

-- An object has the elements of its owner's type, and as many.
abbrev pub IsDeclared : ProgramTree → Owner → Object → Type 0
IsDeclared p (Static n) o =
    (v : StaticTree) × (slice_get p.statics n ≡ Some v) × (o.element ≡ element_scalar v.of)
    × (length o.values ≡ value_count v.of)
IsDeclared p (Literal n) o =
    (l : LiteralTree) × (slice_get p.literals n ≡ Some l) × (o.element ≡ record {
      base = Char;
      stars = 0;
    }) × (length o.values ≡ length l.bytes)
IsDeclared p (Variable x depth) o =
    (a : AutomaticTree) × (slice_get p.automatics x ≡ Some a) × (o.element ≡ element_scalar a.of)
    × (length o.values ≡ value_count a.of)

-- So has each object of a memory.
abbrev pub AreDeclared : ProgramTree → Memory → Type 0
AreDeclared p memory = (n : ℕ) (o : Object) → slice_get memory n ≡ Some o → IsDeclared p o.owner o

-- An owner has an object in a memory that lives.
pub record Lives (owner : Owner) (memory : Memory) : Type 0 where
  pub number : ℕ
  pub object : Object
  pub is : slice_get memory number ≡ Some object
  pub owned : object.owner ≡ owner
  pub phase : object.phase ≡ Live

-- So does each static variable of a program.
abbrev pub StaticsLive : ProgramTree → Memory → Type 0
StaticsLive p memory = (n : ℕ) (v : StaticTree) → slice_get p.statics n ≡ Some v → Lives (Static n) memory

-- a variable as a stop at a depth shows it
abbrev pub shown_of : (depth : ℕ) → Memory → ℕ → Shown
shown_of depth memory x = record { variable = x; values = contents (Variable x depth) memory }

-- A stop is at a place of the program, which is no entry; it shows what is visible there, with what it holds; each
-- object is as its owner is declared, and those of static variables live.
pub record IsStopOf (p : ProgramTree) (place depth : ℕ) (shown : List Shown) (memory : Memory) : Type 0 where
  pub some : 1 ≤ place
  pub at : Place
  pub is : slice_get (places_of_program p) (place - 1) ≡ Some at
  pub stops : at.is_entry ≡ false
  pub shows : shown ≡ map (shown_of depth memory) (visible p.automatics at.scope)
  pub declared : AreDeclared p memory
  pub statics : StaticsLive p memory

-- a status with which a program ends is an int
abbrev pub IsStatus : ℤ → Type 0
IsStatus status = holds (integer Int) status ≡ true
