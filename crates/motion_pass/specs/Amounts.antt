-- How much graphs have of what is bounded.
use Rattle.std.specs.Prelude.{◌≡◌, ◌≤◌, ℕ, List, length, slice_get, Some}
use Rattle.memory_map.specs.declared.map.Room.TheVariants.{Large}
use Rattle.graph_core.specs.Bounds.{most_instructions, most_blocks}
use Rattle.graph_core.specs.Graphs.{Graph}
use Rattle.graph_core.specs.Validity.{instructions_of, total}
use Rattle.motion_pass.specs.declared.bounds.Amount.{Amount}
use Rattle.motion_pass_placement.specs.Bounded.{IsBounded}
use Rattle.motion_pass.specs.Placing.{LeadInside}

-- so much is what these graphs have
pub record IsAmount (a : Amount) (all : List Graph) : Type 0 where
  pub instructions : a.instructions ≡ total instructions_of all
  pub blocks : a.blocks ≡ total (λ (g : Graph). length g.blocks) all

-- The graphs of a valid unit of either room: they have no more than it may, each is within the bounds of a function,
-- and their edges lead to blocks.
pub record AreBounded (all : List Graph) : Type 0 where
  pub instructions : total instructions_of all ≤ most_instructions Large
  pub blocks : total (λ (g : Graph). length g.blocks) all ≤ most_blocks Large
  pub each : (n : ℕ) (g : Graph) → slice_get all n ≡ Some g → IsBounded g
  pub inside : (n : ℕ) (g : Graph) → slice_get all n ≡ Some g → LeadInside g.blocks
