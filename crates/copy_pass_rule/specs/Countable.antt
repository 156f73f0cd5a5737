-- Graphs whose parts can be counted.
use Rattle.std.specs.Prelude.{ℕ, ◌<◌, ◌^◌, length}
use Rattle.graph_core.specs.Graphs.{Graph}
use Rattle.graph_core.specs.Validity.{instructions_of}

-- A graph has a block, and 31 bits count its blocks, its scalars, and its instructions that are neither markers nor
-- notes.
pub record IsCountable (g : Graph) : Type 0 where
  pub some : 0 < length g.blocks
  pub blocks : length g.blocks < 2 ^ 31
  pub scalars : length g.scalars < 2 ^ 31
  pub instructions : instructions_of g < 2 ^ 31
