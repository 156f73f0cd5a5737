-- That all is so in a state that is so on all paths to a point.
use Rattle.std.specs.Prelude.{◌≡◌, ℕ, ◌<◌, false, Some, List, length, slice_get}
use Rattle.graph_homes.specs.declared.home.Home.{Home}
use Rattle.graph_homes.specs.Homes.{last_writer, written_since}
use Rattle.graph_core.specs.Graphs.{Recipe, Is, Instruction, End, Graph, graph_view}
use Rattle.graph_core.specs.Paths.{Among, History, Path, last_note}
use Rattle.graph_core.specs.Uses.{names_in}
use Rattle.currency_notes.specs.declared.function.Function as declared-function
use Rattle.currency_notes.specs.declared.homes.Homes as declared-homes
use Rattle.currency_notes.specs.declared.state.State as declared-state
use Rattle.currency_notes.specs.Homes.{home_by, number_in}
use Rattle.currency_notes.specs.Numbered.{AreNumbered, AreToldApart}
use Rattle.currency_notes.specs.Notes.{recipe_in}

-- On a path a recipe is the last note of a scalar, and no home that it reads was written behind the note.
pub record IsLeft (home : ℕ → Home) (x : ℕ) (r : Recipe) (h : History) : Type 0 where
  pub note : last_note x h ≡ Some (Is r)
  pub before : (y : ℕ) → Among y (names_in r) → written_since home x (home y) h ≡ false

module _ (m : declared-homes.Homes) (g : Graph) where
  -- A path comes to a point, and what is so on all paths to it is so in a state: what is left of notes, and for which
  -- name each home with a new number was last written.
  pub record IsFull (s : declared-state.State) (n : ℕ) (rest : List Instruction) (e : End) : Type 0 where
    pub history : History
    pub way : Path g history n rest e
    pub noted : (x : ℕ) (r : Recipe) → x < length g.scalars
        → ((h : History) → Path g h n rest e → IsLeft (home_by m) x r h) → recipe_in s.noted.items x ≡ Some r
    pub written : (y k : ℕ) → number_in m y ≡ Some k
        → ((h : History) → Path g h n rest e → last_writer (home_by m) g.parameters (home_by m y) h ≡ Some y)
        → slice_get s.written.items k ≡ Some (Some y)
    pub scalars : length s.noted.items ≡ length g.scalars
    pub homes : length s.written.items ≡ length m.readers.items

-- The same is noted in two states, and homes were last written for the same names.
pub record IsEqual (s t : declared-state.State) : Type 0 where
  pub noted : s.noted.items ≡ t.noted.items
  pub written : s.written.items ≡ t.written.items

module _ (f : declared-function.Function) where
  -- The homes of a function are numbered as its notes read them, and numbers tell them apart.
  pub record AreExact : Type 0 where
    pub told : AreToldApart f.homes
    pub numbered : AreNumbered f.homes (graph_view f.graph.now)

  -- All is so in a state that is so on all paths to a point of a function.
  abbrev pub IsFullAt : declared-state.State → (n : ℕ) → List Instruction → End → Type 0
  IsFullAt s n rest e = IsFull f.homes (graph_view f.graph.now) s n rest e
