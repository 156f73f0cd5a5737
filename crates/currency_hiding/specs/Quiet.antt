-- Quiet paths: ways to a place on which nothing disturbs the home of a scalar.
use Rattle.std.specs.Prelude.{◌≡◌, ◌⊎◌, ℕ, ◌≤◌, true, Option, Some, None, List}
use Rattle.places.specs.declared.flow.FlowTable.{FlowTable}
use Rattle.places.specs.Flow.{assigns, can_go}
use Rattle.debug_records.specs.Change.{is_taken}
use Rattle.graph_homes.specs.declared.home.Home.{Home}
use Rattle.graph_core.specs.Graphs.{Graph, Logged}
use Rattle.graph_core.specs.Paths.{Among}
use Rattle.currency_writers.specs.declared.writers.Writer as declared-writer
use Rattle.currency_writers.specs.Writers.{IsWriter}
use Rattle.currency_hiding.specs.Evidence.{HasHomeOf}

-- A way by the flow from a place to a stop, of one step at least, on which no place between the two is disturbed.
pub data GoesBy (flow : FlowTable) (IsDisturbed : ℕ → Type 0) (start : ℕ) : (stop : ℕ) → Type 0 where
  at_once : {q : ℕ} → can_go flow.steps.items start q ≡ true → GoesBy flow IsDisturbed start q
  on : {p q : ℕ} → GoesBy flow IsDisturbed start p → (IsDisturbed p → ⊥) → can_go flow.steps.items p q ≡ true
      → GoesBy flow IsDisturbed start q

-- given: the log of a unit, the flow of its program, the homes of the names of a function of this number, and one of
-- its scalars, which is this variable
module _ (log : List Logged) (flow : FlowTable) (home : ℕ → Home) (f : ℕ) (g : Graph) (x variable : ℕ) where
  -- By a change an assignment of the variable went from a place.
  pub record WasTaken (place : ℕ) : Type 0 where
    pub change : Logged
    pub logged : Among change log
    pub taken : is_taken change.kind ≡ true
    pub at : change.place ≡ place
    pub of : change.variable ≡ variable

  -- The scalar's home is written in a place: by an instruction that stands there, whether a path reaches it or not; or,
  -- at the entry, by the binding of a parameter.
  pub record IsWritten (place : ℕ) : Type 0 where
    pub y : ℕ
    pub w : declared-writer.Writer
    pub writes : IsWriter f g place y w
    pub shared : HasHomeOf log flow home f g x variable y

  -- Nothing may be between the ends of a quiet path that assigns the variable or writes its home.
  abbrev pub IsDisturbed : (place : ℕ) → Type 0
  IsDisturbed p = (assigns flow.assignments.items p variable ≡ true) ⊎ IsWritten p

  -- A quiet path may begin where the variable is assigned, no change took the assignment, and nothing writes the home
  -- for another name.
  pub record MayBegin (start : ℕ) : Type 0 where
    pub assigned : assigns flow.assignments.items start variable ≡ true
    pub stays : WasTaken start → ⊥
    pub own : (y : ℕ) (w : declared-writer.Writer) → IsWriter f g start y w → HasHomeOf log flow home f g x variable y
        → y ≡ x

  -- A QUIET PATH: from where one may begin a way leads to a stop that nothing between disturbs.
  pub record IsQuiet (start stop : ℕ) : Type 0 where
    pub begins : MayBegin start
    pub path : GoesBy flow IsDisturbed start stop

  -- THE START THAT IS TOLD: the least at which a quiet path to the stop begins, or none where there is no such path.
  abbrev pub IsLeastQuiet : (stop : ℕ) → Option ℕ → Type 0
  IsLeastQuiet stop None = (start : ℕ) → IsQuiet start stop → ⊥
  IsLeastQuiet stop (Some least) = IsQuiet least stop × ((start : ℕ) → IsQuiet start stop → least ≤ start)
