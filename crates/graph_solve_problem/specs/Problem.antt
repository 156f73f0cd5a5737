-- Problems of data flow, with their laws.
use Rattle.std.specs.Prelude.{◌≡◌, ◌≢◌, ℕ, suc, ◌<◌, ◌≤◌, ◌↔◌, ◌||◌, ◌&&◌, Bool}
use Rattle.std.specs.FinSet.{contains}
use Rattle.bit_rows.specs.Grid.{met_bit}
use Rattle.graph_solve_problem.specs.Numbers.{Numbers, IsBelow}

-- A chain of so many falls ends at a value: it begins at any value, and each next value lies strictly below the one
-- before.
pub data Falls (IsValue : Numbers → Type 0) (meet : Numbers → Numbers → Numbers) : ℕ → Numbers → Type 0 where
  begins : {x : Numbers} → IsValue x → Falls IsValue meet 0 x
  falls : {n : ℕ} {x y : Numbers} → Falls IsValue meet n x → IsValue y → meet y x ≡ y → y ≢ x
      → Falls IsValue meet (suc n) y

-- What flows through the blocks of a graph, and what each block makes of it; with the laws that a problem keeps.
pub record DataFlow : Type 1 where
  -- which sets flow
  pub IsValue : Numbers → Type 0
  -- whether values flow as execution goes, or against it
  pub forward : Bool
  -- how often a value can fall at most
  pub height : ℕ
  -- the value at the entry, or at each end where values flow against execution
  pub edge : Numbers
  -- the value of which nothing is known
  pub top : Numbers
  -- what is left of two values where paths meet
  pub meet : Numbers → Numbers → Numbers
  -- what a block makes of a value
  pub transfer : ℕ → Numbers → Numbers
  -- all facts lie below it
  pub width : ℕ
  -- whether the meet is union, or else intersection
  pub unites : Bool
  -- whether a block keeps a fact that it is given
  pub kept : (block fact : ℕ) → Bool
  -- whether a block makes a fact of its own
  pub written : (block fact : ℕ) → Bool
  pub values : (x : Numbers) → IsValue x ↔ IsBelow width x
  pub meets : (x y : Numbers) → IsValue x → IsValue y → (fact : ℕ)
      → contains (meet x y) fact ≡ met_bit unites (contains x fact) (contains y fact)
  pub moves : (block : ℕ) (x : Numbers) → IsValue x → (fact : ℕ) → fact < width
      → contains (transfer block x) fact ≡ ((contains x fact && kept block fact) || written block fact)
  pub edge_value : IsValue edge
  pub top_value : IsValue top
  pub meet_value : (x y : Numbers) → IsValue x → IsValue y → IsValue (meet x y)
  pub transfer_value : (block : ℕ) (x : Numbers) → IsValue x → IsValue (transfer block x)
  pub commutes : (x y : Numbers) → IsValue x → IsValue y → meet x y ≡ meet y x
  pub associates : (x y z : Numbers) → IsValue x → IsValue y → IsValue z → meet (meet x y) z ≡ meet x (meet y z)
  pub repeats : (x : Numbers) → IsValue x → meet x x ≡ x
  pub neutral : (x : Numbers) → IsValue x → meet x top ≡ x
  pub distributes : (block : ℕ) (x y : Numbers) → IsValue x → IsValue y
      → transfer block (meet x y) ≡ meet (transfer block x) (transfer block y)
  pub bounded : (count : ℕ) (x : Numbers) → Falls IsValue meet count x → count ≤ height
