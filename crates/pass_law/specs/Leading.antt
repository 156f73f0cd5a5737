-- What a list of passes makes of a unit.
use Rattle.std.specs.Prelude.{◌≡◌, ◌≢◌, ℕ, List, [], ◌∷◌}
use Rattle.debug_records.specs.declared.change.PassName.{PassName}
use Rattle.debug_records.specs.Change.{letters}
use Rattle.graph_core.specs.Graphs.{UnitForm}
use Rattle.pass_law.specs.Keeps.{Keeps}
use Rattle.pass_law.specs.Logs.{LogsWell}

-- A pass is the first of them whose name has these letters.
pub data IsFirst {P : Type 0} (named : P → PassName) (name : List ℕ) (p : P) : List P → Type 0 where
  here : {more : List P} → letters (named p) ≡ name → IsFirst named name p (p ∷ more)
  behind : {other : P} {more : List P} → letters (named other) ≢ name → IsFirst named name p more
      → IsFirst named name p (other ∷ more)

-- The first pass of a name makes the one unit of the other.
pub record IsStepOf {P : Type 0} (named : P → PassName) (steps : P → UnitForm → UnitForm → Type 0) (passes : List P)
    (name : List ℕ) (u v : UnitForm) : Type 0 where
  pub pass : P
  pub first : IsFirst named name pass passes
  pub step : steps pass u v

-- THE NAMES LEAD FROM ONE UNIT TO ANOTHER: each by a step of the first pass of that name, in order, and by no other
-- step.
abbrev pub Lead : {P : Type 0} → (P → PassName) → (P → UnitForm → UnitForm → Type 0) → List P → (names : List (List ℕ))
    → (u w : UnitForm) → Type 0
Lead named steps passes [] u w = w ≡ u
Lead named steps passes (name ∷ more) u w =
    (v : UnitForm) × IsStepOf named steps passes name u v × Lead named steps passes more v w

-- A step of the pass of this name that keeps the law of passes: the unit before it is well marked, what it does is
-- kept, and the pass logs what it may.
pub record IsLawfulStep (pass : PassName) (steps : UnitForm → UnitForm → Type 0) (u v : UnitForm) : Type 0 where
  pub step : steps u v
  pub keeps : Keeps u v
  pub logs : LogsWell pass u v
