-- What graphs have at most, by what their functions weigh.
use Rattle.std.specs.Prelude.{◌≡◌, ℕ, ◌*◌, ◌≤◌, ◌==◌, Some, List, length, slice_get}
use Rattle.c_tree.specs.Programs.{TypedFunctionTree, ProgramTree}
use Rattle.graph_core.specs.Graphs.{Graph, UnitForm}
use Rattle.graph_core.specs.Bounds.{most_functions, most_instructions, most_instructions_of_function, most_names, most_blocks, most_parameters, most_arguments}
use Rattle.graph_core.specs.Validity.{instructions_of, arguments_of, total}

-- A graph has at most two counted instructions and three blocks for each unit of its function's weight, and as many
-- names as that.
pub record KeepsWeight (f : TypedFunctionTree) (g : Graph) : Type 0 where
  pub instructions : instructions_of g ≤ 2 * f.weight
  pub names : g.name_count ≤ f.weight
  pub blocks : length g.blocks ≤ 3 * f.weight

-- Each graph of a unit keeps the weight of its function.
abbrev pub KeepWeights : ProgramTree → UnitForm → Type 0
KeepWeights p u =
    (k : ℕ) (f : TypedFunctionTree) (g : Graph) → slice_get p.functions k ≡ Some f → slice_get u.graphs k ≡ Some g
    → KeepsWeight f g

-- what a graph may have
pub record KeepsBounds (g : Graph) : Type 0 where
  pub instructions : instructions_of g ≤ most_instructions_of_function
  pub names : g.name_count ≤ most_names
  pub scalars : length g.scalars ≤ g.first_moved
  pub temporaries : g.first_moved ≤ g.name_count
  pub parameters : length g.parameters ≤ most_parameters

-- The counts of a unit are within the bounds of valid units: of functions, instructions, blocks, arguments of calls,
-- and in each graph of instructions, names, scalars and parameters.
pub record KeepBounds (u : UnitForm) : Type 0 where
  pub functions : length u.graphs ≤ most_functions
  pub instructions : total instructions_of u.graphs ≤ most_instructions u.room
  pub blocks : total (λ (g : Graph). length g.blocks) u.graphs ≤ most_blocks u.room
  pub arguments : total arguments_of u.graphs ≤ most_arguments u.room
  pub graphs : (k : ℕ) (g : Graph) → slice_get u.graphs k ≡ Some g → KeepsBounds g
