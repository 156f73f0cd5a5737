-- Where quiet paths of a scalar begin, by what is known of a unit and a function.
use Rattle.std.specs.Prelude.{◌≡◌, ◌≢◌, ◌⊎◌, ℕ, true, Option, List, Contains}
use Rattle.debug_records.specs.declared.change.Change.{Change}
use Rattle.graph_core.specs.Graphs.{graph_view}
use Rattle.currency_notes.specs.Homes.{home_in}
use Rattle.currency_writers.specs.declared.marks.Marks as declared-marks
use Rattle.currency_writers.specs.declared.search.Search as declared-search
use Rattle.currency_writers.specs.declared.writers.Writer as declared-writer
use Rattle.currency_writers.specs.declared.writers.Writers as declared-writers
use Rattle.currency_writers.specs.Flow.{HasRoom, assigned}
use Rattle.currency_writers.specs.Marks.{mark_at, room_of}
use Rattle.currency_writers.specs.Writers.{HaveOneHome, Writes}
use Rattle.currency_hiding.specs.declared.changes.Changes as declared-changes
use Rattle.currency_hiding.specs.declared.function.Function as declared-function
use Rattle.currency_hiding.specs.declared.quiet.Quiet as declared-quiet
use Rattle.currency_hiding.specs.Changes.{log_of}
use Rattle.currency_hiding.specs.Quiet.{IsLeastQuiet, WasTaken}

-- The home of a scalar is written in a place for another name.
pub record IsWrittenForOther (v : declared-writers.Writers) (x p : ℕ) : Type 0 where
  pub y : ℕ
  pub writer : declared-writer.Writer
  pub writes : Writes v p y writer
  pub other : y ≢ x
  pub shared : HaveOneHome v y x

-- One of these changes is of this place.
pub record IsTakenFrom (taken : List Change) (p : ℕ) : Type 0 where
  pub change : Change
  pub is : Contains taken change
  pub at : change.place.0 ≡ p

-- A place assigns the variable in question, or the home of the scalar is written there.
abbrev pub IsDisturbedAt : declared-search.Search → declared-function.Function → (p : ℕ) → Type 0
IsDisturbedAt s f p =
    (assigned s.flow p ≡ true)
    ⊎ ((y : ℕ) × (w : declared-writer.Writer) × Writes f.writers p y w × HaveOneHome f.writers y f.scalar)

-- given: the changes of a unit, a search on one variable, and a function with one scalar in question
module _ (l : declared-changes.Changes) (s : declared-search.Search) (f : declared-function.Function) where
  -- An assignment of the variable went from a place, or the home of the scalar is written there for another name.
  abbrev pub IsBarred : (p : ℕ) → Type 0
  IsBarred p =
      WasTaken (log_of l) s.flow.table.now (home_in f.writers.homes.now) f.writers.function
      (graph_view f.writers.graph.now) f.scalar s.flow.var.0 p
      ⊎ IsWrittenForOther f.writers f.scalar p

  -- THE LEAST at which a quiet path of the scalar to a place begins, if there is one
  abbrev pub IsLeastQuietAt : (stop : ℕ) → Option ℕ → Type 0
  IsLeastQuietAt stop start =
      IsLeastQuiet (log_of l) s.flow.table.now (home_in f.writers.homes.now) f.writers.function
      (graph_view f.writers.graph.now) f.scalar s.flow.var.0 stop start

  -- Each place is marked with the least at which a quiet path there begins, if there is one.
  abbrev pub AreQuietStarts : declared-marks.Marks ℕ → Type 0
  AreQuietStarts starts = (stop : ℕ) → IsLeastQuietAt stop (mark_at starts stop)

-- Each place of the flow may be marked in what is kept of quiet paths.
pub record HasQuietRoom (s : declared-search.Search) (q : declared-quiet.Quiet) : Type 0 where
  pub disturbed : HasRoom s.flow q.disturbed
  pub barred : HasRoom s.flow q.barred
  pub starts : room_of q.disturbed ≡ room_of q.starts
