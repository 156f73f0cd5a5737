-- Facts that flow from block to block: what blocks do to them, and what some way brings where.
use Rattle.std.specs.Prelude.{◌≡◌, ◌≢◌, ℕ, ◌-◌, ◌<◌, ◌≤◌, Bool, true, false, Some, List, length, slice_get}
use Rattle.graph_core.specs.Graphs.{Block}
use Rattle.graph_core.specs.Uses.{targets_of}
use Rattle.graph_core.specs.Paths.{Among}
use Rattle.graph_paths.specs.declared.marks.Marks.{Marks}
use Rattle.graph_paths.specs.PathMarksTable.{bits_of, told}

-- a block through which facts flow leads to another
pub record HasEdge (blocks : List Block) (is_open : ℕ → Bool) (from to : ℕ) : Type 0 where
  pub block : Block
  pub is : slice_get blocks from ≡ Some block
  pub comes : is_open from ≡ true
  pub leads : Among to (targets_of block.end)

-- facts flow from one block to another, as execution goes or against it
abbrev pub FlowsBy : List Block → (is_open : ℕ → Bool) → (forward : Bool) → (from to : ℕ) → Type 0
FlowsBy blocks is_open true m n = HasEdge blocks is_open m n
FlowsBy blocks is_open false m n = HasEdge blocks is_open n m

-- HOW FACTS FLOW. Through the blocks of a graph that are open, as execution goes or against it. The facts are the
-- numbers below a width, and each block makes of what it is told of a fact what leaves it.
pub record Course : Type 0 where
  pub blocks : List Block
  pub is_open : ℕ → Bool
  pub forward : Bool
  pub width : ℕ
  pub does : (block fact : ℕ) → Bool → Bool

abbrev pub Flows : Course → (from to : ℕ) → Type 0
Flows c = FlowsBy c.blocks c.is_open c.forward

-- SOME WAY BRINGS A FACT to a block: it begins there, or a block hands it on, from what it is told of it. If it is told
-- that the fact is so, then some way brings it to that block.
pub data IsBrought (Flows : ℕ → ℕ → Type 0) (does : ℕ → Bool → Bool) (begins : ℕ → Bool) : ℕ → Type 0 where
  begun : {n : ℕ} → begins n ≡ true → IsBrought Flows does begins n
  handed : {m n : ℕ} (before : Bool) → Flows m n → (before ≡ true → IsBrought Flows does begins m)
      → does m before ≡ true → IsBrought Flows does begins n

-- a row for each block and a bit for each fact: whether the fact comes to the block, or leaves it
abbrev pub Bits : Type 0
Bits = (row bit : ℕ) → Bool

-- No other facts come to blocks than some way brings, where these begin; and what leaves a block is what it makes of
-- them.
pub record AreBrought (c : Course) (begins comes leaves : Bits) : Type 0 where
  pub brought : (n fact : ℕ) → n < length c.blocks → fact < c.width → comes n fact ≡ true
      → IsBrought (Flows c) (λ m. c.does m fact) (λ m. begins m fact) n
  pub begun : (n fact : ℕ) → begins n fact ≡ true → comes n fact ≡ true
  pub made : (n fact : ℕ) → n < length c.blocks → fact < c.width → leaves n fact ≡ c.does n fact (comes n fact)

-- THE THREE LAWS OF A FLOOD. What comes to blocks was brought; it is closed, since what leaves a block comes to all to
-- which it flows; and what leaves a block is what it makes of what comes to it.
pub record AreSettled (c : Course) (begins comes leaves : Bits) : Type 0 where
  pub brought : AreBrought c begins comes leaves
  pub closed : (m n fact : ℕ) → Flows c m n → m < length c.blocks → n < length c.blocks → leaves m fact ≡ true
      → comes n fact ≡ true

-- the tables have a row for each block and a bit for each fact
pub record AreTables (c : Course) (comes leaves : Marks) : Type 0 where
  pub comes_count : length c.blocks ≤ comes.count
  pub leaves_count : length c.blocks ≤ leaves.count
  pub comes_width : comes.width ≡ c.width
  pub leaves_width : leaves.width ≡ c.width

-- all rows are the same but one
abbrev pub AreSameBut : (row : ℕ) → (old new : Bits) → Type 0
AreSameBut row old new = (other bit : ℕ) → other ≢ row → new other bit ≡ old other bit

-- all rows are the same from a number on
abbrev pub AreSameFrom : (count : ℕ) → (old new : Bits) → Type 0
AreSameFrom count old new = (row bit : ℕ) → count ≤ row → new row bit ≡ old row bit

abbrev pub AreSame : (old new : Bits) → Type 0
AreSame old new = (row bit : ℕ) → new row bit ≡ old row bit

-- A STEP OF A FLOOD, that tells whether anything is new: if so, more is told than was, and else all is as it was. Rows
-- behind those of the blocks stay.
pub record IsStep (c : Course) (comes leaves new_comes new_leaves : Marks) (is_new : Bool) : Type 0 where
  pub comes_count : new_comes.count ≡ comes.count
  pub comes_width : new_comes.width ≡ comes.width
  pub leaves_count : new_leaves.count ≡ leaves.count
  pub leaves_width : new_leaves.width ≡ leaves.width
  pub keeps : (begins : Bits) → AreBrought c begins (bits_of comes) (bits_of leaves)
      → AreBrought c begins (bits_of new_comes) (bits_of new_leaves)
  pub least : told comes ≤ told new_comes
  pub more : is_new ≡ true → told comes < told new_comes
  pub quiet_comes : is_new ≡ false → AreSame (bits_of comes) (bits_of new_comes)
  pub quiet_leaves : is_new ≡ false → AreSame (bits_of leaves) (bits_of new_leaves)
  pub spare_comes : AreSameFrom (length c.blocks) (bits_of comes) (bits_of new_comes)
  pub spare_leaves : AreSameFrom (length c.blocks) (bits_of leaves) (bits_of new_leaves)

-- STEPS OF A FLOOD, some or none: whether more is told than was is left open.
pub record AreFurther (c : Course) (comes leaves new_comes new_leaves : Marks) : Type 0 where
  pub is_new : Bool
  pub step : IsStep c comes leaves new_comes new_leaves is_new

-- the block that facts leave along an edge, and the one to which they come
abbrev pub source : (forward : Bool) → (from to : ℕ) → ℕ
source true from to = from
source false from to = to

abbrev pub sink : (forward : Bool) → (from to : ℕ) → ℕ
sink true from to = to
sink false from to = from

-- what leaves the one comes to the other
abbrev pub IsClosedAlong : Course → (from to : ℕ) → (comes leaves : Bits) → Type 0
IsClosedAlong c from to comes leaves =
    (fact : ℕ) → to < length c.blocks → leaves (source c.forward from to) fact ≡ true
    → comes (sink c.forward from to) fact ≡ true

-- so it is along all edges of a block
abbrev pub IsClosedAt : Course → (number : ℕ) → (comes leaves : Bits) → Type 0
IsClosedAt c number comes leaves =
    (to : ℕ) → HasEdge c.blocks c.is_open number to → IsClosedAlong c number to comes leaves

-- the block of a turn, where each block gets one: the first one first, or the last one
abbrev pub block_at : (forward : Bool) → (count turn : ℕ) → ℕ
block_at true count turn = turn
block_at false count turn = count - 1 - turn
