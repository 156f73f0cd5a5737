-- The flow of a program as a search has it, for one variable.
use Rattle.std.specs.Prelude.{◌≡◌, ◌≢◌, ◌⊎◌, ℕ, ◌<◌, ◌≤◌, Bool, true, false, List, AllPairs, Contains, IsSomeAnd, None, Some}
use Rattle.std.specs.List.Sorted.{IsNonDecreasing}
use Rattle.places.specs.declared.flow.FlowStep.{FlowStep}
use Rattle.places.specs.declared.flow.Assignment.{Assignment}
use Rattle.places.specs.declared.flow.FlowTable.{FlowTable}
use Rattle.places.specs.Flow.{IsAssignmentBefore, can_go, assigns}
use Rattle.currency_writers.specs.declared.lists.Lists as declared-lists
use Rattle.currency_writers.specs.declared.marks.Marks as declared-marks
use Rattle.currency_writers.specs.declared.flow.Flow as declared-flow
use Rattle.currency_writers.specs.Lists.{entries_of}
use Rattle.currency_writers.specs.Marks.{mark_at, room_of}
use Rattle.currency_writers.specs.Ways.{Comes}

-- A flow is of places below a number: its steps lead from such places to such, they alone assign variables, and what is
-- assigned is in order.
pub record IsFlowOfPlaces (table : FlowTable) (places : ℕ) : Type 0 where
  pub from : (p q : ℕ) → can_go table.steps.items p q ≡ true → p < places
  pub to : (p q : ℕ) → can_go table.steps.items p q ≡ true → q < places
  pub assigning : (p x : ℕ) → assigns table.assignments.items p x ≡ true → p < places
  pub ordered : AllPairs IsAssignmentBefore table.assignments.items

-- The list of a place has the places to which execution may go from it.
pub record AreFollowing (steps : List FlowStep) (after : declared-lists.Lists) : Type 0 where
  pub sound : (p q : ℕ) → Contains (entries_of after p) q → can_go steps p q ≡ true
  pub all : (p q : ℕ) → can_go steps p q ≡ true → Contains (entries_of after p) q

-- The list of a variable has the places that assign it.
pub record AreAssigning (assignments : List Assignment) (assigning : declared-lists.Lists) : Type 0 where
  pub sound : (x p : ℕ) → Contains (entries_of assigning x) p → assigns assignments p x ≡ true
  pub all : (x p : ℕ) → assigns assignments p x ≡ true → Contains (entries_of assigning x) p

module _ (f : declared-flow.Flow) where
  -- a place assigns the variable in question
  abbrev pub assigned : (p : ℕ) → Bool
  assigned p = assigns f.table.now.assignments.items p f.var.0

  -- Execution may come from a place to another one with nothing between them that assigns the variable in question.
  abbrev pub ComesOn : (from p : ℕ) → Type 0
  ComesOn from p = Comes f.table.now.steps.items (λ q. assigns f.table.now.assignments.items q f.var.0) from p

  -- The lists are those of the flow, the places that assign a variable are in order, and the places of the flow are
  -- those that may be marked.
  pub record IsFlow : Type 0 where
    pub after : AreFollowing f.table.now.steps.items f.after
    pub assigning : AreAssigning f.table.now.assignments.items f.assigning
    pub ordered : (x : ℕ) → IsNonDecreasing (entries_of f.assigning x)
    pub places : IsFlowOfPlaces f.table.now (room_of f.assigns)

  -- Each place that may be marked as one that assigns the variable may be marked here too.
  abbrev pub HasRoom : {T : Type 0} → declared-marks.Marks T → Type 0
  HasRoom told = room_of f.assigns ≤ room_of told

  -- The places that assign the variable in question are marked, and no others.
  pub record IsBlocked : Type 0 where
    pub marked : (p : ℕ) → mark_at f.assigns p ≢ None → assigned p ≡ true
    pub all : (p : ℕ) → assigned p ≡ true → mark_at f.assigns p ≢ None

  -- A place that is marked is so with one that assigns the variable, and from which execution may come there.
  abbrev pub AreStarts : declared-marks.Marks ℕ → Type 0
  AreStarts starts = (p start : ℕ) → mark_at starts p ≡ Some start → (assigned start ≡ true) × ComesOn start p

  -- Each place to which execution may come from one that assigns the variable is marked, and not with one above that
  -- place.
  abbrev pub AreLeast : declared-marks.Marks ℕ → Type 0
  AreLeast starts =
      (start p : ℕ) → assigned start ≡ true → ComesOn start p → IsSomeAnd (mark_at starts p) (λ least. least ≤ start)

  -- Places keep what they were marked with; or they were not marked, are so with this, and execution may come to them.
  abbrev pub IsToldFrom : {T : Type 0} → (from : ℕ) (value : T) (old new : declared-marks.Marks T) → Type 0
  IsToldFrom from value old new =
      (p : ℕ)
      → (mark_at new p ≡ mark_at old p) ⊎ ((mark_at old p ≡ None) × (mark_at new p ≡ Some value) × ComesOn from p)

  -- Each place to which execution may come from a place is marked.
  abbrev pub AreTold : {T : Type 0} → (from : ℕ) → declared-marks.Marks T → Type 0
  AreTold from told = (p : ℕ) → ComesOn from p → mark_at told p ≢ None

  -- Each place to which execution may go directly from a place is marked.
  abbrev pub AreNextTold : {T : Type 0} → (from : ℕ) → declared-marks.Marks T → Type 0
  AreNextTold from told = (p : ℕ) → can_go f.table.now.steps.items from p ≡ true → mark_at told p ≢ None

  -- From a place that is marked and does not assign the variable execution may go on to such alone as are marked.
  abbrev pub IsClosed : {T : Type 0} → declared-marks.Marks T → Type 0
  IsClosed told = (q : ℕ) → mark_at told q ≢ None → assigned q ≡ false → AreNextTold q told
