-- What is made of a graph whose computations are placed, piece by piece.
use Rattle.std.specs.Prelude.{◌≡◌, ℕ, ◌+◌, ◌≤◌, Option, Some, None, List, [], ◌∷◌, ◌++◌, length, map, option_map, slice_get}
use Rattle.debug_records.specs.declared.change.Place as declared-place
use Rattle.memory_map.specs.declared.map.Room.TheVariants.{Large}
use Rattle.graph_core.specs.declared.name.Name as declared-name
use Rattle.graph_core.specs.Bounds.{most_blocks}
use Rattle.graph_core.specs.Graphs.{Instruction, End, Block, Graph, block_view, graph_view}
use Rattle.graph_core.specs.Paths.{Among}
use Rattle.graph_core.specs.Uses.{targets_of}
use Rattle.graph_core.specs.Computations.{Computation}
use Rattle.motion_pass_points.specs.Ways.{Point}
use Rattle.motion_pass_placement.specs.declared.placement.Placement.{Placement}
use Rattle.motion_pass_placement.specs.Placed.{IsPlaced, all_of}
use Rattle.motion_pass_placement.specs.Moving.{AreDone, Becomes, IsLed, IsEnd, IsMovedBlock, AreMovedBlocks}
use Rattle.motion_pass.specs.declared.moving.Moving.{Moving}

-- a place by its number
abbrev pub placed : Option declared-place.Place → Option ℕ
placed place = option_map (λ (p : declared-place.Place). p.0) place

-- of computations those with temporaries
abbrev pub with_temporaries : List Computation → List (Option declared-name.Name) → List Computation
with_temporaries [] names = []
with_temporaries (e ∷ all) [] = []
with_temporaries (e ∷ all) (None ∷ names) = with_temporaries all names
with_temporaries (e ∷ all) (Some t ∷ names) = e ∷ with_temporaries all names

-- the computations with temporaries of what is placed
abbrev pub treated_by : Placement → List Computation
treated_by p = with_temporaries (all_of p) p.temporaries.items

-- each edge leads to a block
abbrev pub LeadInside : List Block → Type 0
LeadInside blocks =
    (n : ℕ) (b : Block) → slice_get blocks n ≡ Some b → (l : ℕ) → Among l (targets_of b.end)
    → (c : Block) × (slice_get blocks l ≡ Some c)

abbrev pub graph_of : Moving → Graph
graph_of m = graph_view m.graph.now

abbrev pub blocks_of : Moving → List Block
blocks_of m = map block_view m.graph.now.blocks.items

abbrev pub first_of : Moving → ℕ
first_of m = m.graph.now.name_count

abbrev pub treated_in : Moving → List Computation
treated_in m = treated_by m.placement.now

-- What is moved is a graph whose computations are placed so, that has no more blocks than a valid unit, and whose edges
-- lead to them.
pub record IsMoving (m : Moving) : Type 0 where
  pub are : IsPlaced (graph_of m) m.placement.now
  pub few : length (blocks_of m) ≤ most_blocks Large
  pub inside : LeadInside (blocks_of m)

-- behind others stands what is done at a point, and what becomes of an instruction
pub record IsPushed (m : Moving) (p : Point) (i : Instruction) (old new : List Instruction) : Type 0 where
  pub done : List Instruction
  pub j : Instruction
  pub are : AreDone (blocks_of m) (first_of m) (treated_in m) p done
  pub becomes : Becomes (blocks_of m) (first_of m) (treated_in m) p i j
  pub behind : new ≡ old ++ (done ++ j ∷ [])

-- an edge leaves a block
pub record IsEdge (m : Moving) (from to : ℕ) : Type 0 where
  pub block : Block
  pub is : slice_get (blocks_of m) from ≡ Some block
  pub leads : Among to (targets_of block.end)

-- it is the end of a block
pub record IsEndOf (m : Moving) (from : ℕ) (end : End) : Type 0 where
  pub block : Block
  pub is : slice_get (blocks_of m) from ≡ Some block
  pub ends : block.end ≡ end

-- where an edge leads, with its own block behind other new ones
pub record IsLedBehind (m : Moving) (from : ℕ) (place : Option ℕ) (to label : ℕ) (old new : List Block) : Type 0 where
  pub own : List Block
  pub led : IsLed (blocks_of m) (first_of m) (treated_in m) from place to (length (blocks_of m) + length old) label own
  pub grown : new ≡ old ++ own

-- what becomes of an end: what is done on its only edge stands behind instructions
pub record IsEndBehind (m : Moving) (from : ℕ) (place : Option ℕ) (before after : End) (old new : List Instruction)
    (old_blocks new_blocks : List Block) : Type 0 where
  pub done : List Instruction
  pub own : List Block
  pub is : IsEnd (blocks_of m) (first_of m) (treated_in m) from place (length (blocks_of m) + length old_blocks)
      before done after own
  pub behind : new ≡ old ++ done
  pub grown : new_blocks ≡ old_blocks ++ own

-- what becomes of a block
pub record IsBlockBehind (m : Moving) (n : ℕ) (b c : Block) (old new : List Block) : Type 0 where
  pub own : List Block
  pub is : IsMovedBlock (blocks_of m) (first_of m) (treated_in m) n (length (blocks_of m) + length old) b c own
  pub grown : new ≡ old ++ own

-- what becomes of all blocks
pub record AreBlocksMoved (m : Moving) (all : List Block) : Type 0 where
  pub moved : List Block
  pub own : List Block
  pub blocks : AreMovedBlocks (blocks_of m) (first_of m) (treated_in m) 0 (length (blocks_of m)) (blocks_of m) moved own
  pub are : all ≡ moved ++ own
