-- A search for a route, breadth first: the places that it came to, in order, and what it knows of them.
use Rattle.std.specs.Prelude.{◌≡◌, ◌≢◌, ℕ, ◌+◌, ◌*◌, ◌<◌, ◌≤◌, ◌⊎◌, ◌==◌, ◌&&◌, ◌||◌, Bool, true, false, List, [], ◌∷◌, ◌++◌, length, map, Some, slice_get, slice_index_or}
use Rattle.places.specs.declared.flow.FlowStep.{FlowStep}
use Rattle.places.specs.declared.search.Visit.{Visit}
use Rattle.places.specs.declared.search.Request.{Request}
use Rattle.places.specs.declared.search.Blocked.{Blocked}
use Rattle.places.specs.declared.search.Blocked.TheVariants.{Assigning, Flagged}
use Rattle.places.specs.Flow.{can_go, assigns}
use Rattle.places.specs.Path.{Quest, LeadOn, IsRoute, IsBefore, IsNotBehind}

-- the number of a place as the search comes to it, before or after the place to go by
abbrev pub state_number : ℕ → (passed : Bool) → ℕ
state_number place true = 2 * place + 1
state_number place false = 2 * place

-- The steps before an index are from lesser places, the others are not.
pub record IsFirstFrom (steps : List FlowStep) (place first : ℕ) : Type 0 where
  pub before : (j : ℕ) (s : FlowStep) → slice_get steps j ≡ Some s → j < first → s.from.0 < place
  pub after : (j : ℕ) (s : FlowStep) → slice_get steps j ≡ Some s → first ≤ j → place ≤ s.from.0

-- For each number of a place there is a flag, which is set where the place is blocked.
abbrev pub AreBlocked : (blocked : ℕ → Bool) → List Bool → Type 0
AreBlocked blocked flags =
    (place : ℕ) (passed : Bool) → state_number place passed < length flags
    → slice_index_or flags (state_number place passed) false ≡ blocked place

-- A visit, with the way to it from the start.
pub record Row : Type 0 where
  pub place : ℕ
  pub passed : Bool
  pub parent : ℕ
  pub way : List ℕ

abbrev pub visit_of : Row → Visit
visit_of r = record { place = record { 0 = r.place }; passed = r.passed; parent = r.parent }

-- The visit is the first, or its way is that of its parent, an earlier one, and its place.
pub data ComesFrom (quest : Quest) (rows : List Row) (i : ℕ) (r : Row) : Type 0 where
  Start : i ≡ 0 → r.place ≡ quest.start → r.way ≡ r.place ∷ [] → ComesFrom quest rows i r
  Later : (parent : Row) → slice_get rows r.parent ≡ Some parent → r.parent < i → r.way ≡ parent.way ++ r.place ∷ []
      → ComesFrom quest rows i r

-- whether via is passed before or at a place that comes next
abbrev pub passes : Quest → Row → (place : ℕ) → Bool
passes quest r place = r.passed || place == quest.via

-- The search came to the place that follows a visit, not behind the way over it.
pub record Came (quest : Quest) (rows : List Row) (r : Row) (place : ℕ) : Type 0 where
  pub index : ℕ
  pub row : Row
  pub is : slice_get rows index ≡ Some row
  pub place_is : row.place ≡ place
  pub passed_is : row.passed ≡ passes quest r place
  pub early : IsNotBehind row.way (r.way ++ place ∷ [])

-- What became of a step from a visit to a place: it does not lead to the stop, and it leads nowhere or the search came
-- there.
pub record Settled (quest : Quest) (rows : List Row) (r : Row) (place : ℕ) : Type 0 where
  pub no_answer : r.passed ≡ true → place ≢ quest.stop
  pub came : (quest.blocked place ≡ true) ⊎ Came quest rows r place

-- A flag is set for a place that is blocked, or that the search came to.
pub data IsClosed (quest : Quest) (rows : List Row) (place : ℕ) (passed : Bool) : Type 0 where
  Barred : quest.blocked place ≡ true → IsClosed quest rows place passed
  Visited : (index : ℕ) (row : Row) → slice_get rows index ≡ Some row → row.place ≡ place → row.passed ≡ passed
      → IsClosed quest rows place passed

-- the step was taken from the visit, where the search has come to this step of this visit
abbrev pub IsTaken : (i j head k : ℕ) → Type 0
IsTaken i j head k = (i < head) ⊎ ((i ≡ head) × (j < k))

-- What the search knows at a step of a visit.
pub record Searched (quest : Quest) (head k : ℕ) (visits : List Visit) (closed : List Bool) : Type 0 where
  pub rows : List Row
  pub visits_are : visits ≡ map visit_of rows
  -- whatever leads on from a visit makes a route with the way to it
  pub lead : (i : ℕ) (r : Row) → slice_get rows i ≡ Some r → (rest : List ℕ) → LeadOn quest r.passed r.place rest
      → IsRoute quest (r.way ++ rest)
  -- there is a visit of the start
  pub begin : (r : Row) × (slice_get rows 0 ≡ Some r) × (r.place ≡ quest.start)
      × (r.passed ≡ (quest.start == quest.via)) × (r.way ≡ quest.start ∷ [])
  pub from : (i : ℕ) (r : Row) → slice_get rows i ≡ Some r → ComesFrom quest rows i r
  -- no parent is behind the visit that the search has come to
  pub near : (i : ℕ) (r : Row) → slice_get rows i ≡ Some r → r.parent ≤ head
  -- the ways come one behind the other
  pub ascend : (i j : ℕ) (r s : Row) → slice_get rows i ≡ Some r → slice_get rows j ≡ Some s → i < j
      → IsBefore r.way s.way
  -- and all of them before those that the search comes to next
  pub beyond : (i j : ℕ) (r h : Row) (s : FlowStep) → slice_get rows i ≡ Some r → slice_get rows head ≡ Some h
      → slice_get quest.steps j ≡ Some s
      → s.from.0 ≡ h.place → k ≤ j → IsBefore r.way (h.way ++ s.to.0 ∷ [])
  pub settled : (i j : ℕ) (r : Row) (s : FlowStep) → slice_get rows i ≡ Some r → slice_get quest.steps j ≡ Some s
      → s.from.0 ≡ r.place
      → IsTaken i j head k → Settled quest rows r s.to.0
  pub room : (j : ℕ) (s : FlowStep) → slice_get quest.steps j ≡ Some s → 2 * s.to.0 + 1 < length closed
  pub flags : (place : ℕ) (passed : Bool) → slice_index_or closed (state_number place passed) false ≡ true
      → IsClosed quest rows place passed
  pub blocked : (place : ℕ) (passed : Bool) → state_number place passed < length closed → quest.blocked place ≡ true
      → slice_index_or closed (state_number place passed) false ≡ true

-- This is the way to a visit, by the parents.
pub data IsWayTo (visits : List Visit) : ℕ → List ℕ → Type 0 where
  WayStart : (at : ℕ) (way : List ℕ) (v : Visit) → at ≡ 0 → slice_get visits 0 ≡ Some v → way ≡ v.place.0 ∷ []
      → IsWayTo visits at way
  WayLater : (at : ℕ) (way : List ℕ) (v : Visit) (front : List ℕ) → slice_get visits at ≡ Some v → v.parent < at
      → IsWayTo visits v.parent front → way ≡ front ++ v.place.0 ∷ []
      → IsWayTo visits at way

-- A visit that passed via, and a step from it to the stop.
pub record IsAnswer (quest : Quest) (visit : Visit) : Type 0 where
  pub passed : visit.passed ≡ true
  pub step : can_go quest.steps visit.place.0 quest.stop ≡ true

-- The search came to an answer at a visit.
pub record Answered (quest : Quest) (head : ℕ) (visits : List Visit) : Type 0 where
  pub step : ℕ
  pub closed : List Bool
  pub searched : Searched quest head step visits closed
  pub visit : Visit
  pub is : slice_get visits head ≡ Some visit
  pub answer : IsAnswer quest visit

-- what the search knows behind a visit: it came to an answer, or to the next visit
abbrev pub Expanded : Quest → (head : ℕ) → (found : Bool) → List Visit → List Bool → Type 0
Expanded quest head true visits closed = Answered quest head visits
Expanded quest head false visits closed = Searched quest (head + 1) 0 visits closed

-- where no route may pass between its ends
abbrev pub blocked_by : Blocked → (place : ℕ) → Bool
blocked_by (Assigning table var) place = assigns table.now.assignments.items place var.0
blocked_by (Flagged flags) place = slice_index_or flags.now place false

-- what is asked for
abbrev pub quest_of : Request → Quest
quest_of r =
    record { steps = r.steps.now; blocked = blocked_by r.blocked; start = r.start.0; via = r.via.0; stop = r.stop.0 }
