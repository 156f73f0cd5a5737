-- What is counted of a unit, as its instructions have shares in it.
use Rattle.std.specs.Prelude.{ℕ, ◌+◌, ◌≤◌, List, length}
use Rattle.std.specs.Option.{option_map_or}
use Rattle.graph_core.specs.declared.validity.Counted.{Counted}
use Rattle.graph_core.specs.declared.validity.Counted.TheVariants.{Instructions, Arguments, Markers}
use Rattle.graph_core.specs.Graphs.{Instruction, Block, Graph, UnitForm}
use Rattle.graph_core.specs.Uses.{marker_of}
use Rattle.graph_core.specs.Bounds.{most_functions, most_instructions, most_blocks, most_markers, most_arguments, most_static_bytes}
use Rattle.graph_core.specs.Memory.{static_bytes}
use Rattle.graph_core.specs.Validity.{arguments_in, arguments_of, counts, instructions_of, markers_of, taken_by, total}

-- 1 for a marker, and else 0
abbrev pub marks : Instruction → ℕ
marks i = option_map_or (λ p. 1) (marker_of i) 0

-- how much of what is counted an instruction has
abbrev pub share : Counted → Instruction → ℕ
share Instructions i = counts i
share Arguments i = arguments_in i
share Markers i = marks i

-- how much of what is counted blocks have
abbrev pub count_in_blocks : Counted → List Block → ℕ
count_in_blocks counted blocks = total (λ (b : Block). total (share counted) b.instructions) blocks

-- how much of what is counted graphs have
abbrev pub count_in_graphs : Counted → List Graph → ℕ
count_in_graphs counted graphs = total (λ (g : Graph). count_in_blocks counted g.blocks) graphs

-- The counts of a unit are within their bounds.
pub record KeepsCounts (u : UnitForm) : Type 0 where
  pub functions : length u.graphs ≤ most_functions
  pub instructions : total instructions_of u.graphs ≤ most_instructions u.room
  pub blocks : total (λ (g : Graph). length g.blocks) u.graphs ≤ most_blocks u.room
  pub markers : length (markers_of u.graphs) ≤ most_markers u.room
  pub arguments : total arguments_of u.graphs ≤ most_arguments u.room
  pub statics : total (λ o. taken_by (static_bytes o)) u.statics
      + total (λ (b : List ℕ). taken_by (length b)) u.array_bytes
      ≤ most_static_bytes
