-- Reads that were replaced at one point, and in one block.
use Rattle.std.specs.Prelude.{◌≡◌, ◌↔◌, ℕ, ◌≤◌, Option, Some, List, drop, length, option_map, slice_get, take}
use Rattle.debug_records.specs.declared.change.Place as declared-place
use Rattle.graph_core.specs.Graphs.{Block, Scalar}
use Rattle.graph_core.specs.Points.{reads_at}
use Rattle.graph_core.specs.Validity.{place_behind}
use Rattle.pass_law.specs.declared.cases.Case.{Case}
use Rattle.copy_pass.specs.Reads.{IsOther}

-- a place by its number
abbrev pub placed : Option declared-place.Place → Option ℕ
placed place = option_map (λ (p : declared-place.Place). p.0) place

-- one place is in force in both graphs exactly where it is this one
abbrev pub IsInBoth : (stood stands both : Option ℕ) → Type 0
IsInBoth stood stands both = (p : ℕ) → (both ≡ Some p) ↔ ((stood ≡ Some p) × (stands ≡ Some p))

-- the variable of a name, if it is a scalar
abbrev pub variable_in : List Scalar → (x : ℕ) → Option ℕ
variable_in scalars x = option_map (λ (s : Scalar). s.variable) (slice_get scalars x)

-- A read was replaced at a point, where these names were read and these are.
pub record IsReplacedAt (scalars : List Scalar) (place : Option ℕ) (block index : ℕ) (was is : List ℕ) (c : Case)
    : Type 0 where
  pub in_place : place ≡ Some c.place.0
  pub in_block : c.block ≡ block
  pub at_index : c.index ≡ index
  pub x : ℕ
  pub other : IsOther was is c.operand x
  pub variable : variable_in scalars x ≡ Some c.var.0

-- A read was replaced in a block that has as many instructions as before.
pub record IsReplacedIn (scalars : List Scalar) (n : ℕ) (b d : Block) (c : Case) : Type 0 where
  pub within : c.index ≤ length b.instructions
  pub stood : place_behind (take c.index b.instructions) b.place ≡ Some c.place.0
  pub stands : place_behind (take c.index d.instructions) d.place ≡ Some c.place.0
  pub in_block : c.block ≡ n
  pub x : ℕ
  pub other : IsOther (reads_at (drop c.index b.instructions) b.end) (reads_at (drop c.index d.instructions) d.end)
      c.operand x
  pub variable : variable_in scalars x ≡ Some c.var.0
