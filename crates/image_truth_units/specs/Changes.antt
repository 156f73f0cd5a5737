-- Which changes of a log an image can tell of.
use Rattle.std.specs.Prelude.{◌≢◌, ℕ, ◌≤◌, ◌<◌, List, length}
use Rattle.std.specs.List.{AllByRecursion}
use Rattle.c_tree.specs.Programs.{ProgramTree}
use Rattle.c_places.specs.Places.{places_of_program}
use Rattle.debug_records.specs.Change.{IsPassName, letters}
use Rattle.debug_records.specs.declared.change.Kind.TheVariants.{Sunk}
use Rattle.graph_core.specs.Graphs.{Logged}
use Rattle.image_truth_units.specs.Tables.{variables_in}

-- An image can tell of a change: its pass has a name of 1 to 16 lower-case letters, it was made at a place of the
-- program and concerns a variable of it, and it is none by which an assignment sank.
pub record CanBeTold (p : ProgramTree) (c : Logged) : Type 0 where
  pub called : IsPassName (letters c.pass)
  pub place_some : 1 ≤ c.place
  pub place_most : c.place ≤ length (places_of_program p)
  pub variable : c.variable < variables_in p
  pub unsunk : c.kind ≢ Sunk

-- how many changes of a log an image has room for
abbrev pub most_told : ℕ
most_told = 33000000

-- AN IMAGE CAN TELL OF A LOG: of each of its changes, and there are not too many.
pub record CanAllBeTold (p : ProgramTree) (log : List Logged) : Type 0 where
  pub each : AllByRecursion (CanBeTold p) log
  pub few : length log ≤ most_told
