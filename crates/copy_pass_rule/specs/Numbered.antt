-- Copies by the points where they stand.
use Rattle.std.specs.Prelude.{◌≡◌, ℕ, suc, ◌<◌, true, Option, Some, None, List, slice_get, slice_index_or}
use Rattle.std.specs.declared.vec.Vec.{Vec}
use Rattle.std.specs.declared.alloc.Global.{Global}
use Rattle.copy_pass_rule.specs.declared.copies.CopyAt.{CopyAt}
use Rattle.copy_pass_rule.specs.Flow.{stands_at}

abbrev pub number_in : Option (Vec ℕ Global) → (left : ℕ) → ℕ
number_in None left = 0
number_in (Some row) left = slice_index_or row.items left 0

-- the number, from 1 on, of the copy that stands at a point
abbrev pub number_at : List (Vec ℕ Global) → (block left : ℕ) → ℕ
number_at numbers block left = number_in (slice_get numbers block) left

-- each copy has its number where it stands
abbrev pub AreNumbered : List CopyAt → List (Vec ℕ Global) → Type 0
AreNumbered all numbers = (k : ℕ) (c : CopyAt) → slice_get all k ≡ Some c → number_at numbers c.block c.left ≡ suc k

-- each is of scalars below a number
abbrev pub AreOfScalars : List CopyAt → (scalars : ℕ) → Type 0
AreOfScalars all scalars = (k : ℕ) (c : CopyAt) → slice_get all k ≡ Some c → (c.target < scalars) × (c.source < scalars)

-- It is the one copy that stands at a point.
pub record IsOnlyOne (all : List CopyAt) (block left k : ℕ) : Type 0 where
  pub copy : CopyAt
  pub is : slice_get all k ≡ Some copy
  pub stands : stands_at copy block left ≡ true
  pub only : (j : ℕ) (c : CopyAt) → slice_get all j ≡ Some c → stands_at c block left ≡ true → j ≡ k
