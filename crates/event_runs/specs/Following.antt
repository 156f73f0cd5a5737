-- What it means that a bounded run follows a list of events.
use Rattle.std.specs.Prelude.{◌≡◌, ℕ, ◌+◌, ◌≤◌, List, [], ◌∷◌, ◌++◌}
use Rattle.event_runs.specs.Agreement.{Pairs}

-- After some steps the run shows an event that is related to this one, and it goes on as another run does with what is
-- left of the bound.
pub record Shows {A B : Type 0} (R : A → B → Type 0) (event : A) (run : ℕ → List B) : Type 0 where
  pub steps : ℕ
  pub shown : B
  pub rest : ℕ → List B
  pub same : R event shown
  pub is : (k j : ℕ) → j ≡ steps + k → run j ≡ shown ∷ rest k

-- The run shows these events one after the other: the first after at most `first` steps, each other one after at most
-- `more` further steps.
abbrev pub Follows : {A B : Type 0} → (A → B → Type 0) → (first more : ℕ) → List A → (ℕ → List B) → Type 0
Follows R first more [] run = Unit {0}
Follows R first more (e ∷ es) run = (next : Shows R e run) × (next.steps ≤ first) × Follows R more more es next.rest

-- the same with no bound on the steps
abbrev pub Comes : {A B : Type 0} → (A → B → Type 0) → List A → (ℕ → List B) → Type 0
Comes R [] run = Unit {0}
Comes R (e ∷ es) run = (next : Shows R e run) × Comes R es next.rest

-- With enough steps the run shows events that are related to all of these one by one, and perhaps more behind them.
pub record Reached {A B : Type 0} (R : A → B → Type 0) (es : List A) (run : ℕ → List B) : Type 0 where
  pub steps : ℕ
  pub shown : List B
  pub more : List B
  pub is : run steps ≡ shown ++ more
  pub same : Pairs R es shown

-- related by way of an event of the run between
abbrev pub Both : {A B C : Type 0} → (A → B → Type 0) → (B → C → Type 0) → A → C → Type 0
Both {B = B} R S a c = (b : B) × R a b × S b c
