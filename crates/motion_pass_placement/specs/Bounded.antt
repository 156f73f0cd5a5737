-- Graphs within the bounds of the functions of valid units.
use Rattle.std.specs.Prelude.{ℕ, ◌≤◌, length}
use Rattle.std.specs.List.{AllByRecursion}
use Rattle.memory_map.specs.declared.map.Room.TheVariants.{Large}
use Rattle.graph_core.specs.Bounds.{most_blocks, most_instructions_of_function, most_names}
use Rattle.graph_core.specs.Graphs.{Block, Graph}
use Rattle.graph_core.specs.Validity.{instructions_of}
use Rattle.motion_pass_points.specs.MotionPointsComputing.{computed_along}
use Rattle.motion_pass_points.specs.Named.{AreNamed}

-- A GRAPH IS WITHIN BOUNDS: it has no more blocks, instructions and names than a function of a valid unit of either
-- room may have, and computes of its own names and of constants alone.
pub record IsBounded (g : Graph) : Type 0 where
  pub blocks : length g.blocks ≤ most_blocks Large
  pub instructions : instructions_of g ≤ most_instructions_of_function
  pub names : g.name_count ≤ most_names
  pub named : AllByRecursion (λ (b : Block). AreNamed g.name_count (computed_along b.instructions)) g.blocks
