-- Which of all that may hide a scalar at a place is told: the first.
use Rattle.std.specs.Prelude.{◌≡◌, ℕ, ◌≤◌, true, option_map, List, [], ◌∷◌}
use Rattle.places.specs.declared.flow.FlowTable.{FlowTable}
use Rattle.places.specs.Flow.{assigns}
use Rattle.debug_records.specs.Change.{letters}
use Rattle.debug_records.specs.declared.change.Place.{Place}
use Rattle.debug_records.specs.declared.change.Kind.TheVariants.{Reused}
use Rattle.graph_homes.specs.declared.home.Home.{Home}
use Rattle.graph_core.specs.Graphs.{Graph, Logged}
use Rattle.currency_writers.specs.Order.{IsNoLater, rank_of}
use Rattle.currency_hiding.specs.declared.causes.Cause as declared-cause
use Rattle.currency_hiding.specs.declared.causes.Cause.TheVariants as cause
use Rattle.currency_hiding.specs.declared.hiding.Hiding as declared-hiding
use Rattle.currency_hiding.specs.Changes.{IsNumbered, homes_name}
use Rattle.currency_hiding.specs.Evidence.{HasRoute, Hides, IsBareRemoval, IsMovedWrite, IsReusedWrite}
use Rattle.currency_hiding.specs.Quiet.{IsLeastQuiet}

-- THE ORDER in which causes are told, with the place by which their ways lead: removals by the numbers of their
-- changes; then moved computations by the numbers of theirs, by the starts of their ways, by the places that they lead
-- by, and by what writes there; then what writes a register that was given to other names too, by starts, places and
-- writers.
abbrev pub order_of : declared-cause.Cause → (via : ℕ) → List ℕ
order_of (cause.Removed c start) via = 0 ∷ c ∷ []
order_of (cause.Moved c start w) via = 1 ∷ c ∷ start ∷ via ∷ rank_of w
order_of (cause.Reused c start w) via = 2 ∷ start ∷ via ∷ rank_of w

-- given: the log of a unit, the flow of its program, the homes of the names of a function of this number, and one of
-- its scalars, which is this variable
module _ (log : List Logged) (flow : FlowTable) (home : ℕ → Home) (f : ℕ) (g : Graph) (x variable : ℕ) where
  -- By the change of a number the assignment of homes gave the register of the variable to other names too.
  pub record IsShared (number : ℕ) : Type 0 where
    pub change : Logged
    pub is : IsNumbered log number change
    pub reused : change.kind ≡ Reused
    pub of : change.variable ≡ variable
    pub named : letters change.pass ≡ homes_name

  -- It is the last change by which that was so.
  pub record IsLastShared (number : ℕ) : Type 0 where
    pub is : IsShared number
    pub last : (other : ℕ) → IsShared other → other ≤ number

  -- A cause may be told at a place, for a way by another one: it is there by the change, its write is in the place by
  -- which the way leads, and the way begins where the variable is assigned.
  abbrev pub MayBeTold : (stop via : ℕ) → declared-cause.Cause → Type 0
  MayBeTold stop via (cause.Removed c start) =
      (start ≡ via) × IsBareRemoval log flow home f g x variable c start
      × HasRoute log flow home f g x variable start start stop
  MayBeTold stop via (cause.Moved c start w) =
      IsMovedWrite log flow home f g x variable c via w × (assigns flow.assignments.items start variable ≡ true)
      × HasRoute log flow home f g x variable start via stop
  MayBeTold stop via (cause.Reused c start w) =
      IsLastShared c × IsReusedWrite log flow home f g x variable c via w
      × (assigns flow.assignments.items start variable ≡ true)
      × HasRoute log flow home f g x variable start via stop

  -- THE FIRST: a cause may be told at a place, and none that may is before it.
  pub record IsFirst (stop : ℕ) (c : declared-cause.Cause) : Type 0 where
    pub via : ℕ
    pub is : MayBeTold stop via c
    pub first : (d : declared-cause.Cause) (by : ℕ) → MayBeTold stop by d → IsNoLater (order_of c via) (order_of d by)

  -- No cause may be told at a place.
  abbrev pub HasNone : (stop : ℕ) → Type 0
  HasNone stop = (d : declared-cause.Cause) (by : ℕ) → MayBeTold stop by d → ⊥

  -- TOLD: a cause hides the scalar at a place, and is the first that may be told there; and the place beside it is the
  -- least at which a quiet path to there begins, or there is none.
  abbrev pub Tells : (stop : ℕ) → declared-hiding.Hiding → Type 0
  Tells stop h =
      Hides log flow home f g x variable stop h.cause × IsFirst stop h.cause
      × IsLeastQuiet log flow home f g x variable stop (option_map (λ (p : Place). p.0) h.quiet)
