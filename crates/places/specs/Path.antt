-- Paths by flow, and the least of those that lead from a place by way of another to a third.
use Rattle.std.specs.Prelude.{◌≡◌, ℕ, ◌<◌, ◌⊎◌, ◌==◌, ◌||◌, Bool, true, false, List, [], ◌∷◌, length, map, slice_index_or, ⊤}
use Rattle.debug_records.specs.declared.change.Place.{Place}
use Rattle.debug_records.specs.declared.change.Var.{Var}
use Rattle.places.specs.declared.flow.FlowStep.{FlowStep}
use Rattle.places.specs.declared.flow.FlowTable.{FlowTable}
use Rattle.places.specs.declared.paths.Path.{Path}
use Rattle.places.specs.Flow.{can_go, assigns}

-- the numbers of places
abbrev pub numbers : List Place → List ℕ
numbers places = map (λ (p : Place). p.0) places

-- the places of a path, by number
abbrev pub places : Path → List ℕ
places path = numbers path.places.items

-- Execution may go from each place directly to the next one.
abbrev pub GoesOn : List FlowStep → List ℕ → Type 0
GoesOn steps [] = ⊤
GoesOn steps (p ∷ []) = ⊤
GoesOn steps (p ∷ q ∷ path) = (can_go steps p q ≡ true) × GoesOn steps (q ∷ path)

-- What a route is asked for: from a start by way of a place to a stop, with no blocked place between the two ends.
pub record Quest : Type 0 where
  pub steps : List FlowStep
  pub blocked : ℕ → Bool
  pub start : ℕ
  pub via : ℕ
  pub stop : ℕ

-- It is asked for by the flow of a program, while a variable is not assigned.
abbrev pub quest_by : FlowTable → (variable start via stop : ℕ) → Quest
quest_by table variable start via stop =
    record {
      steps = table.steps.items;
      blocked = λ p. assigns table.assignments.items p variable;
      start = start;
      via = via;
      stop = stop;
    }

-- what a route is asked for that assigns no variable on its way
abbrev pub quest : FlowTable → Var → (start via stop : Place) → Quest
quest table var start via stop = quest_by table var.0 start.0 via.0 stop.0

-- It is asked for by these steps, past the places whose flags are set.
abbrev pub quest_past : List FlowStep → List Bool → (start via stop : Place) → Quest
quest_past steps flags start via stop =
    record { steps = steps; blocked = λ p. slice_index_or flags p false; start = start.0; via = via.0; stop = stop.0 }

-- These places lead on from a place p to the stop. To each of them execution may go directly from the one before. Those
-- before the last are not blocked, the last is the stop, and the place to go by was passed before it.
abbrev pub LeadOn : Quest → (passed : Bool) → (p : ℕ) → List ℕ → Type 0
LeadOn quest passed p [] = ⊥
LeadOn quest passed p (q ∷ []) = (can_go quest.steps p q ≡ true) × (q ≡ quest.stop) × (passed ≡ true)
LeadOn quest passed p (q ∷ r ∷ path) =
    (can_go quest.steps p q ≡ true) × (quest.blocked q ≡ false) × LeadOn quest (passed || q == quest.via) q (r ∷ path)

-- The path begins at the start, and leads on to the stop.
pub record IsRoute (quest : Quest) (path : List ℕ) : Type 0 where
  pub rest : List ℕ
  pub begins : path ≡ quest.start ∷ rest
  pub leads : LeadOn quest (quest.start == quest.via) quest.start rest

-- At the first place where two lists of one length differ, the one has the lesser number.
abbrev pub IsLess : List ℕ → List ℕ → Type 0
IsLess [] ys = ⊥
IsLess (x ∷ xs) [] = ⊥
IsLess (x ∷ xs) (y ∷ ys) = (x < y) ⊎ ((x ≡ y) × IsLess xs ys)

-- One path comes before another: it is shorter, or as long and less.
abbrev pub IsBefore : List ℕ → List ℕ → Type 0
IsBefore xs ys = (length xs < length ys) ⊎ ((length xs ≡ length ys) × IsLess xs ys)

-- The path is the one or comes before the other.
abbrev pub IsNotBehind : List ℕ → List ℕ → Type 0
IsNotBehind xs ys = (xs ≡ ys) ⊎ IsBefore xs ys

-- The path is a route, and every other route comes behind it.
pub record IsLeastRoute (quest : Quest) (path : List ℕ) : Type 0 where
  pub route : IsRoute quest path
  pub least : (other : List ℕ) → IsRoute quest other → IsNotBehind path other
