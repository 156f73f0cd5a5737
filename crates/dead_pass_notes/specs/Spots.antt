-- Points of a graph by numbers.
use Rattle.std.specs.Prelude.{◌≡◌, ℕ, ◌-◌, ◌≤◌, Option, Some, None, List, [], length, drop, slice_get}
use Rattle.graph_core.specs.Graphs.{Instruction, End, Return, Block, Graph}

-- what is left of a block, if there is one, before so many instructions of it
abbrev pub left_in : Option Block → (left : ℕ) → List Instruction
left_in None left = []
left_in (Some b) left = drop (length b.instructions - left) b.instructions

-- what is left of the block of a number
abbrev pub left_at : Graph → (n left : ℕ) → List Instruction
left_at g n left = left_in (slice_get g.blocks n) left

-- the end of a block, if there is one
abbrev pub end_in : Option Block → End
end_in None = Return None
end_in (Some b) = b.end

-- the end of the block of a number
abbrev pub end_at : Graph → (n : ℕ) → End
end_at g n = end_in (slice_get g.blocks n)

-- there is a block with so many instructions
pub record IsPoint (g : Graph) (n left : ℕ) : Type 0 where
  pub block : Block
  pub is : slice_get g.blocks n ≡ Some block
  pub within : left ≤ length block.instructions
