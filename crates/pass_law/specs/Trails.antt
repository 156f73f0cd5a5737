-- Lists of passes: which pass a name means, what a list of names makes of a unit, and why a list is not run.
use Rattle.std.specs.Prelude.{◌≡◌, ℕ, ◌<◌, List, [], ◌∷◌, Some, slice_get, IsSomeAnd, ⊤}
use Rattle.debug_records.specs.Change.{letters}
use Rattle.debug_records.specs.declared.change.PassName.{PassName}
use Rattle.graph_core.specs.Graphs.{UnitForm}
use Rattle.pass_law.specs.declared.list.RunErr.{RunErr}
use Rattle.pass_law.specs.declared.list.RunErr.TheVariants.{Unknown, NoMemory}
use Rattle.pass_law.specs.HandedIn.{IsNoPass}
use Rattle.pass_law.specs.Leading.{IsFirst}
use Rattle.pass_law.specs.Relations.{PassRelation}

-- The units of a trail: for each name, in order, a step of the first pass of that name leads from one unit to the next.
pub data IsTrail {P : Type 0} (named : P → PassName) (steps : P → PassRelation) (passes : List P) : List PassName
    → List UnitForm → Type 0 where
  ends : {u : UnitForm} → IsTrail named steps passes [] (u ∷ [])
  goes_on : {name : PassName} {names : List PassName} {u v : UnitForm} {units : List UnitForm} (p : P)
      → IsFirst named (letters name) p passes → (steps p).leads u v → IsTrail named steps passes names (v ∷ units)
      → IsTrail named steps passes (name ∷ names) (u ∷ v ∷ units)

-- of the last unit of a trail behind so many names this is true
abbrev pub OfLast : List UnitForm → (names : ℕ) → (UnitForm → Type 0) → Type 0
OfLast units names P = IsSomeAnd (slice_get units names) P

-- A name stands at an index, is no pass's, and is the first such name: each one before it is some pass's.
pub record IsFirstUnknown {P : Type 0} (named : P → PassName) (passes : List P) (names : List PassName) (index : ℕ)
    : Type 0 where
  pub name : PassName
  pub stands : slice_get names index ≡ Some name
  pub unknown : IsNoPass named passes (letters name)
  pub others : (k : ℕ) (other : PassName) → k < index → slice_get names k ≡ Some other
      → IsNoPass named passes (letters other) → ⊥

-- Why a list is not run: by its first unknown name, or since memory was refused.
abbrev pub IsReason : {P : Type 0} → (P → PassName) → List P → List PassName → RunErr → Type 0
IsReason named passes names (Unknown index) = IsFirstUnknown named passes names index
IsReason named passes names NoMemory = ⊤
