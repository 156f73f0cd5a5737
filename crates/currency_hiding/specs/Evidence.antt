-- Evidence: which change and which write hide a scalar at a place, and on which way.
use Rattle.std.specs.Prelude.{◌≡◌, ◌≢◌, ℕ, ◌≤◌, true, Some, List, length}
use Rattle.places.specs.declared.flow.FlowTable.{FlowTable}
use Rattle.places.specs.Flow.{assigns}
use Rattle.places.specs.Path.{IsRoute, quest_by}
use Rattle.debug_records.specs.declared.change.Kind.TheVariants.{Moved, Reused}
use Rattle.debug_records.specs.Change.{is_taken}
use Rattle.graph_homes.specs.declared.home.Home.{Home}
use Rattle.graph_homes.specs.Homes.{is_same_home}
use Rattle.graph_homes.specs.Reused.{IsTemporaryOf, first_copy}
use Rattle.graph_core.specs.Graphs.{Graph, Logged}
use Rattle.currency_writers.specs.declared.writers.Writer as declared-writer
use Rattle.currency_hiding.specs.declared.causes.Cause as declared-cause
use Rattle.currency_hiding.specs.declared.causes.Cause.TheVariants as cause
use Rattle.currency_writers.specs.Writers.{IsWriter}
use Rattle.currency_hiding.specs.Changes.{IsNumbered}

-- given: the log of a unit, the flow of its program, the homes of the names of a function of this number, and one of
-- its scalars, which is this variable
module _ (log : List Logged) (flow : FlowTable) (home : ℕ → Home) (f : ℕ) (g : Graph) (x variable : ℕ) where
  -- a name has the home of the scalar
  abbrev pub HasHomeOf : (y : ℕ) → Type 0
  HasHomeOf y = is_same_home (home y) (home x) ≡ true

  -- By a change an assignment of the variable went from a place that assigns it, and no code of the place writes the
  -- scalar's home.
  pub record IsBareRemoval (number place : ℕ) : Type 0 where
    pub change : Logged
    pub is : IsNumbered log number change
    pub taken : is_taken change.kind ≡ true
    pub of : change.variable ≡ variable
    pub at : change.place ≡ place
    pub assigned : assigns flow.assignments.items place variable ≡ true
    pub bare : (y : ℕ) (w : declared-writer.Writer) → IsWriter f g place y w → HasHomeOf y → ⊥

  -- A change moved a computation of the variable's value, and this writes the scalar's home, in this place, for the
  -- temporary that keeps the value.
  pub record IsMovedWrite (number via : ℕ) (w : declared-writer.Writer) : Type 0 where
    pub change : Logged
    pub is : IsNumbered log number change
    pub moved : change.kind ≡ Moved
    pub of : change.variable ≡ variable
    pub t : ℕ
    pub copied : first_copy change.place x g.blocks ≡ Some t
    pub temporary : length g.scalars ≤ t
    pub writes : IsWriter f g via t w
    pub shared : HasHomeOf t

  -- A change gave the scalar's register to other names too, and this writes it, in this place, for one that is no
  -- temporary of the variable's moved computations.
  pub record IsReusedWrite (number via : ℕ) (w : declared-writer.Writer) : Type 0 where
    pub change : Logged
    pub is : IsNumbered log number change
    pub reused : change.kind ≡ Reused
    pub of : change.variable ≡ variable
    pub y : ℕ
    pub other : y ≢ x
    pub foreign : IsTemporaryOf log g x variable y → ⊥
    pub writes : IsWriter f g via y w
    pub shared : HasHomeOf y

  -- There is a path from a start by way of a place to a stop, on which nothing between its ends assigns the variable.
  pub record HasRoute (start via stop : ℕ) : Type 0 where
    pub path : List ℕ
    pub route : IsRoute (quest_by flow variable start via stop) path

  -- A change and a write hide the scalar on a way by a place, that begins where the variable is assigned.
  pub record HidesBy (IsWrite : (via : ℕ) → Type 0) (start stop : ℕ) : Type 0 where
    pub via : ℕ
    pub is : IsWrite via
    pub assigned : assigns flow.assignments.items start variable ≡ true
    pub route : HasRoute start via stop

  -- EVIDENCE that the scalar's home may not hold its value at a place: an assignment went, from whose place a way leads
  -- there; or a moved computation, or another name, writes its home on a way there from a place that assigns it.
  abbrev pub Hides : (stop : ℕ) → declared-cause.Cause → Type 0
  Hides stop (cause.Removed c start) = IsBareRemoval c start × HasRoute start start stop
  Hides stop (cause.Moved c start w) = HidesBy (λ via. IsMovedWrite c via w) start stop
  Hides stop (cause.Reused c start w) = HidesBy (λ via. IsReusedWrite c via w) start stop
