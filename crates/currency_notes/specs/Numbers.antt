-- Which numbers homes were given, as far as notes were looked at.
use Rattle.std.specs.Prelude.{◌≡◌, ℕ, ◌<◌, Some, List, length, slice_get}
use Rattle.graph_core.specs.Graphs.{Recipe, Is, Instruction, Note}
use Rattle.graph_core.specs.Paths.{Among}
use Rattle.graph_core.specs.Uses.{names_in}
use Rattle.currency_notes.specs.declared.homes.Homes as declared-homes
use Rattle.currency_notes.specs.Homes.{home_by, number_at, number_in, readers_of}

-- Each number has its readers, and no two homes have one.
pub record AreOrderly (m : declared-homes.Homes) : Type 0 where
  pub within : (i k : ℕ) → slice_get m.numbers.items i ≡ Some (Some k) → k < length m.readers.items
  pub apart : (i j k : ℕ) → slice_get m.numbers.items i ≡ Some (Some k) → slice_get m.numbers.items j ≡ Some (Some k)
      → i ≡ j

-- More homes are numbered, and more scalars are among their readers.
pub record IsMore (old new : declared-homes.Homes) : Type 0 where
  pub homes : new.homes.now ≡ old.homes.now
  pub count : length new.numbers.items ≡ length old.numbers.items
  pub numbers : (i k : ℕ) → slice_get old.numbers.items i ≡ Some (Some k)
      → slice_get new.numbers.items i ≡ Some (Some k)
  pub readers : (k x : ℕ) → Among x (readers_of old k) → Among x (readers_of new k)
  pub orderly : AreOrderly old → AreOrderly new

module _ (m : declared-homes.Homes) where
  -- The home of a name, if it is among so many, has a number, and a scalar is among its readers.
  abbrev pub IsReaderOf : (y x : ℕ) → Type 0
  IsReaderOf y x =
      number_at (home_by m y) < length m.numbers.items → (k : ℕ) × (number_in m y ≡ Some k) × Among x (readers_of m k)

  -- The same of each name that a note among these reads, and its scalar.
  abbrev pub AreNotesRead : List Instruction → Type 0
  AreNotesRead all = (x : ℕ) (r : Recipe) → Among (Note x (Is r)) all → (y : ℕ) → Among y (names_in r) → IsReaderOf y x
