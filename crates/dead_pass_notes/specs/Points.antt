-- Writes that go at one point, and in one block.
use Rattle.std.specs.Prelude.{◌≡◌, ℕ, ◌-◌, Bool, true, Option, Some, List, length, option_map, slice_get, take}
use Rattle.debug_records.specs.declared.change.Place as declared-place
use Rattle.graph_core.specs.Graphs.{Instruction, Block, Scalar}
use Rattle.graph_core.specs.Uses.{target_of}
use Rattle.graph_core.specs.Validity.{place_behind}
use Rattle.pass_law.specs.declared.cases.Case.{Case}

-- a place by its number
abbrev pub placed : Option declared-place.Place → Option ℕ
placed place = option_map (λ (p : declared-place.Place). p.0) place

-- the variable of a name, if it is a scalar
abbrev pub variable_in : List Scalar → (x : ℕ) → Option ℕ
variable_in scalars x = option_map (λ (s : Scalar). s.variable) (slice_get scalars x)

-- A point at which this name is written is where an assignment goes.
pub record IsRemovedAt (scalars : List Scalar) (goes : Bool) (place : Option ℕ) (block index : ℕ) (target : Option ℕ)
    (c : Case) : Type 0 where
  pub gone : goes ≡ true
  pub in_place : place ≡ Some c.place.0
  pub in_block : c.block ≡ block
  pub at_index : c.index ≡ index
  pub x : ℕ
  pub written : target ≡ Some x
  pub variable : variable_in scalars x ≡ Some c.var.0
  pub no_read : c.operand ≡ 0

-- An assignment goes of a block, of which it is told by how many instructions stand behind whether they go.
pub record IsRemovedIn (scalars : List Scalar) (goes : (left : ℕ) → Bool) (n : ℕ) (b : Block) (c : Case) : Type 0 where
  pub instruction : Instruction
  pub is : slice_get b.instructions c.index ≡ Some instruction
  pub gone : goes (length b.instructions - 1 - c.index) ≡ true
  pub in_place : place_behind (take c.index b.instructions) b.place ≡ Some c.place.0
  pub in_block : c.block ≡ n
  pub x : ℕ
  pub written : target_of instruction ≡ Some x
  pub variable : variable_in scalars x ≡ Some c.var.0
  pub no_read : c.operand ≡ 0
