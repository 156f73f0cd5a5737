-- The cases of a pass, and the changes that it logs: one for each case, in order.
use Rattle.std.specs.Prelude.{◌≡◌, ◌≢◌, ◌⊎◌, ℕ, ◌<◌, Some, List, ◌++◌, map, slice_get}
use Rattle.std.specs.List.{AllPairs, Contains}
use Rattle.debug_records.specs.declared.change.PassName.{PassName}
use Rattle.debug_records.specs.declared.change.Kind as declared-kind
use Rattle.graph_core.specs.Graphs.{Graph, Logged, UnitForm}
use Rattle.pass_law.specs.declared.cases.Case.{Case}

-- A case comes before another: by place, then by block, then by instruction, then by operand.
abbrev pub IsBefore : Case → Case → Type 0
IsBefore a b =
    (a.place.0 < b.place.0)
    ⊎
    ((a.place.0 ≡ b.place.0)
    ×
    ((a.block < b.block)
    ⊎ ((a.block ≡ b.block) × ((a.index < b.index) ⊎ ((a.index ≡ b.index) × (a.operand < b.operand))))))

-- Cases are in order: none stands behind one that it comes before.
abbrev pub AreInOrder : List Case → Type 0
AreInOrder cases = AllPairs (λ a b. IsBefore b a → ⊥) cases

-- A list has all that are so: each of them once, and nothing else.
pub record AreAll {A : Type 0} (IsOne : A → Type 0) (all : List A) : Type 0 where
  pub only : (a : A) → Contains all a → IsOne a
  pub each : (a : A) → IsOne a → Contains all a
  pub once : AllPairs (λ a b. a ≢ b) all

-- It is so, and its number is below this one.
abbrev pub Below : {A : Type 0} (IsOne : A → Type 0) (number : A → ℕ) (k : ℕ) → A → Type 0
Below IsOne number k a = IsOne a × (number a < k)

-- It is so, and has this number.
abbrev pub Numbered : {A : Type 0} (IsOne : A → Type 0) (number : A → ℕ) (k : ℕ) → A → Type 0
Numbered IsOne number k a = IsOne a × (number a ≡ k)

-- To a list all were added that are so.
pub record Adds {A : Type 0} (IsOne : A → Type 0) (old new : List A) : Type 0 where
  pub added : List A
  pub behind : new ≡ old ++ added
  pub all : AreAll IsOne added

module _ (IsCase : (before after : Graph) → Case → Type 0) where
  -- A case of a function, by its number: it is one of the graphs of that function before and after.
  pub record IsCaseOf (gs hs : List Graph) (c : ℕ × Case) : Type 0 where
    pub before : Graph
    pub after : Graph
    pub stood : slice_get gs c.0 ≡ Some before
    pub stands : slice_get hs c.0 ≡ Some after
    pub case : IsCase before after c.1

  -- These are the cases of all functions.
  pub record AreCasesOf (gs hs : List Graph) (cases : List Case) : Type 0 where
    pub of : List (ℕ × Case)
    pub all : AreAll (IsCaseOf gs hs) of
    pub are : cases ≡ map (λ (c : ℕ × Case). c.1) of

-- the change of a case
abbrev pub logged_as : PassName → declared-kind.Kind → Case → Logged
logged_as pass kind c = record { pass = pass; kind = kind; place = c.place.0; variable = c.var.0 }

-- The log is the old one, and behind it one change for each case of a function and no other: at the place of the case
-- and of its variable, in order of the cases.
pub record AddsChangesOf (pass : PassName) (kind : declared-kind.Kind) (IsCase : (before after : Graph) → Case → Type 0)
    (u v : UnitForm) : Type 0 where
  pub cases : List Case
  pub all : AreCasesOf IsCase u.graphs v.graphs cases
  pub in_order : AreInOrder cases
  pub log : v.log ≡ u.log ++ map (logged_as pass kind) cases
