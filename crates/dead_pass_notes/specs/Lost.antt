-- Notes that tell of assignments that went before, by names that are stale now.
use Rattle.std.specs.Prelude.{◌≡◌, ◌≢◌, ℕ, Bool, true, Option, Some, None}
use Rattle.graph_core.specs.Graphs.{Name, Recipe, Of, NoteValue, Is, Gone}
use Rattle.graph_core.specs.Uses.{names_in}
use Rattle.graph_core.specs.Paths.{Among}

-- a name of a recipe is told to be stale
pub record HasStale (told : ℕ → Bool) (r : Recipe) : Type 0 where
  pub y : ℕ
  pub named : Among y (names_in r)
  pub is_told : told y ≡ true

-- A note of a scalar says another's recipe, and a name of it is told to be stale.
pub record IsToldLost (told : ℕ → Bool) (x : ℕ) (v : NoteValue) : Type 0 where
  pub r : Recipe
  pub is : v ≡ Is r
  pub other : r ≢ Of (Name x)
  pub stale : HasStale told r

-- what a note says by a change, or by none what it said before
abbrev pub said_by : Option ℕ → NoteValue → NoteValue
said_by None v = v
said_by (Some number) v = Gone number
