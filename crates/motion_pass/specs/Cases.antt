-- Assignments that read temporaries, at one point and in one block.
use Rattle.std.specs.Prelude.{◌≡◌, ℕ, Bool, true, Option, Some, List, option_map, slice_get, take}
use Rattle.graph_core.specs.Graphs.{Instruction, Block, Scalar}
use Rattle.graph_core.specs.Uses.{target_of}
use Rattle.graph_core.specs.Validity.{place_behind}
use Rattle.graph_core.specs.Computations.{Computation}
use Rattle.pass_law.specs.declared.cases.Case.{Case}
use Rattle.motion_pass_problems.specs.Inner.{point_at}
use Rattle.motion_pass_placement.specs.Moving.{IsReadAt}

-- the variable of a name, if it is a scalar
abbrev pub variable_in : List Scalar → (x : ℕ) → Option ℕ
variable_in scalars x = option_map (λ (s : Scalar). s.variable) (slice_get scalars x)

-- A point at which this name is written is where a temporary is read.
pub record IsReadingAt (scalars : List Scalar) (reads : Bool) (place : Option ℕ) (block index : ℕ) (target : Option ℕ)
    (c : Case) : Type 0 where
  pub read : reads ≡ true
  pub in_place : place ≡ Some c.place.0
  pub in_block : c.block ≡ block
  pub at_index : c.index ≡ index
  pub x : ℕ
  pub written : target ≡ Some x
  pub variable : variable_in scalars x ≡ Some c.var.0
  pub no_read : c.operand ≡ 0

-- An assignment of a block reads a temporary.
pub record IsReadingIn (scalars : List Scalar) (blocks : List Block) (n : ℕ) (b : Block) (c : Case) : Type 0 where
  pub instruction : Instruction
  pub is : slice_get b.instructions c.index ≡ Some instruction
  pub computation : Computation
  pub reads : IsReadAt blocks computation (point_at n b c.index)
  pub in_place : place_behind (take c.index b.instructions) b.place ≡ Some c.place.0
  pub in_block : c.block ≡ n
  pub x : ℕ
  pub written : target_of instruction ≡ Some x
  pub variable : variable_in scalars x ≡ Some c.var.0
  pub no_read : c.operand ≡ 0
