-- What a pass logs.
use Rattle.std.specs.Prelude.{◌≡◌, ◌≢◌, ℕ, ◌≤◌, Some, List, ◌++◌, length, slice_get}
use Rattle.std.specs.List.{AllByRecursion}
use Rattle.memory_map.specs.declared.map.Room.{Room}
use Rattle.memory_map.specs.declared.map.Room.TheVariants.{Small, Large}
use Rattle.debug_records.specs.declared.change.PassName.{PassName}
use Rattle.debug_records.specs.declared.change.Kind.TheVariants.{Sunk}
use Rattle.graph_core.specs.Graphs.{Graph, Logged, UnitForm}
use Rattle.graph_core.specs.Paths.{Among}
use Rattle.graph_core.specs.Validity.{markers_of}
use Rattle.graph_core.specs.WellMarked.{IsVariable}

-- how many changes a pass logs at most, by the room of the unit
abbrev pub most_changes : Room → ℕ
most_changes Small = 100000
most_changes Large = 1000000

-- A variable is a scalar of a function of a unit.
pub record IsScalarIn (u : UnitForm) (variable : ℕ) : Type 0 where
  pub function : ℕ
  pub graph : Graph
  pub x : ℕ
  pub is : slice_get u.graphs function ≡ Some graph
  pub of : IsVariable graph x variable

-- What a pass logs: behind the changes of the unit before it not too many, each by its name, at a place that a marker
-- of that unit begins, of a variable that is a scalar there. None of them is of the kind Sunk: an image has no such
-- change.
pub record LogsWell (pass : PassName) (u v : UnitForm) : Type 0 where
  pub added : List Logged
  pub log : v.log ≡ u.log ++ added
  pub few : length added ≤ most_changes u.room
  pub by : AllByRecursion (λ (c : Logged). c.pass ≡ pass) added
  pub kinds : AllByRecursion (λ (c : Logged). c.kind ≢ Sunk) added
  pub at : AllByRecursion (λ (c : Logged). Among c.place (markers_of u.graphs)) added
  pub of : AllByRecursion (λ (c : Logged). IsScalarIn u c.variable) added
