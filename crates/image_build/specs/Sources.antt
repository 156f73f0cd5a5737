-- What is so of each event of a program's run, whatever is made of the program.
use Rattle.std.specs.Prelude.{◌≡◌, ℕ, ◌-◌, ◌≤◌, true, false, Some, List, map, slice_get}
use Rattle.word_base.specs.Owners.{Owner, Static, Variable}
use Rattle.word_base.specs.Types.{holds}
use Rattle.c_tree.specs.declared.types.IntegerType.TheVariants.{Int}
use Rattle.c_tree.specs.Programs.{StaticTree, ProgramTree}
use Rattle.c_type_rules.specs.Integers.{integer}
use Rattle.c_places.specs.Places.{Place, places_of_program, visible}
use Rattle.c_meaning_values.specs.declared.value.Phase.TheVariants.{Live}
use Rattle.c_meaning_values.specs.Memory.{Memory, Object, contents}
use Rattle.c_meaning_steps.specs.States as source
use Rattle.c_meaning_steps.specs.States.{Event, Shown}
use Rattle.image_truth_units.specs.Standing.{IsDeclared}

-- An owner has an object in a memory that lives.
pub record Lives (owner : Owner) (memory : Memory) : Type 0 where
  pub number : ℕ
  pub object : Object
  pub is : slice_get memory number ≡ Some object
  pub owned : object.owner ≡ owner
  pub phase : object.phase ≡ Live

module _ (p : ProgramTree) where
  -- a variable as a stop at a depth shows it
  abbrev pub shown_of : (depth : ℕ) → Memory → ℕ → Shown
  shown_of depth memory x = record { variable = x; values = contents (Variable x depth) memory }

  -- A stop is at a place of the program, which is no entry; it shows what is visible there, with what it holds; each
  -- object is as its owner is declared, and those of static variables live.
  pub record IsStopOf (place depth : ℕ) (shown : List Shown) (memory : Memory) : Type 0 where
    pub some : 1 ≤ place
    pub at : Place
    pub is : slice_get (places_of_program p) (place - 1) ≡ Some at
    pub stops : at.is_entry ≡ false
    pub shows : shown ≡ map (shown_of depth memory) (visible p.automatics at.scope)
    pub declared : (n : ℕ) (o : Object) → slice_get memory n ≡ Some o → IsDeclared p o.owner o
    pub statics : (n : ℕ) (v : StaticTree) → slice_get p.statics n ≡ Some v → Lives (Static n) memory

  -- So is each stop of a program, and the status with which it ends is an int.
  abbrev pub IsEventOf : Event → Type 0
  IsEventOf (source.Put b) = Unit {0}
  IsEventOf (source.Exited status) = holds (integer Int) status ≡ true
  IsEventOf source.TooDeep = Unit {0}
  IsEventOf (source.Stop place depth frames shown memory) = IsStopOf place depth shown memory
