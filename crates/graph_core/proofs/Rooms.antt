-- What holds in one room holds in the larger.
use Rattle.std.proofs.Common.{◌≤◌, arith}
use Rattle.memory_map.specs.declared.map.Room.{Room}
use Rattle.memory_map.specs.declared.map.Room.TheVariants.{Small, Large}
use Rattle.graph_core.specs.Bounds.{most_arguments, most_blocks, most_instructions, most_markers}

pub instructions_in : (r : Room) → most_instructions r ≤ most_instructions Large
instructions_in Small = omega arith
instructions_in Large = omega arith

pub blocks_in : (r : Room) → most_blocks r ≤ most_blocks Large
blocks_in Small = omega arith
blocks_in Large = omega arith

pub markers_in : (r : Room) → most_markers r ≤ most_markers Large
markers_in Small = omega arith
markers_in Large = omega arith

pub arguments_in : (r : Room) → most_arguments r ≤ most_arguments Large
arguments_in Small = omega arith
arguments_in Large = omega arith
