-- Changes of a log by which assignments went.
use Rattle.std.specs.Prelude.{◌≡◌, ℕ, ◌+◌, ◌≤◌, true, Some, List, slice_get}
use Rattle.debug_records.specs.Change.{is_taken}
use Rattle.graph_core.specs.Graphs.{Logged}

-- By a change of a log, of this number from 1 on, an assignment of a variable went from a place.
pub record IsRemoval (log : List Logged) (p variable number : ℕ) : Type 0 where
  pub k : ℕ
  pub change : Logged
  pub counted : number ≡ k + 1
  pub is : slice_get log k ≡ Some change
  pub taken : is_taken change.kind ≡ true
  pub in_place : change.place ≡ p
  pub of : change.variable ≡ variable

-- the first such change
pub record IsFirstRemoval (log : List Logged) (p variable number : ℕ) : Type 0 where
  pub is : IsRemoval log p variable number
  pub first : (other : ℕ) → IsRemoval log p variable other → number ≤ other

-- the last such change
pub record IsLastRemoval (log : List Logged) (p variable number : ℕ) : Type 0 where
  pub is : IsRemoval log p variable number
  pub last : (other : ℕ) → IsRemoval log p variable other → other ≤ number
