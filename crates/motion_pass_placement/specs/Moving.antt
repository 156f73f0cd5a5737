-- WHAT LAZY CODE MOTION MAKES OF A FUNCTION, by the rule: computations are done into temporaries where the rule inserts
-- them, and read from these.
use Rattle.std.specs.Prelude.{◌≡◌, ℕ, suc, ◌+◌, Bool, Option, Some, List, [], ◌∷◌, ◌++◌, length, slice_get}
use Rattle.graph_core.specs.declared.block.Comparison.{Comparison}
use Rattle.graph_core.specs.Graphs.{Operand, Name, Instruction, Move, End, Jump, Branch, Return, Block, Graph}
use Rattle.graph_core.specs.Uses.{target_of}
use Rattle.graph_core.specs.Validity.{place_at_end}
use Rattle.graph_core.specs.Computations.{Computation}
use Rattle.pass_law.specs.Kept.{KeepsFunction}
use Rattle.motion_pass_points.specs.Ways.{Point, within, along, IsCome, IsInserted, IsRead}
use Rattle.motion_pass_points.specs.MotionPointsComputing.{doing}
use Rattle.motion_pass_points.specs.Numbers.{AreOnce, computed_in}
use Rattle.motion_pass_problems.specs.Facts.{AreReached}
use Rattle.motion_pass_placement.specs.Placed.{IsReadSomewhere}

-- Of computations, in order, those that have a temporary: just those that some instruction to which a path comes reads
-- from it.
pub data AreRead (blocks : List Block) : (computations read : List Computation) → Type 0 where
  none_is : AreRead blocks [] []
  read_somewhere : {e : Computation} {computations read : List Computation} → IsReadSomewhere blocks e
      → AreRead blocks computations read → AreRead blocks (e ∷ computations) (e ∷ read)
  read_nowhere : {e : Computation} {computations read : List Computation} → (IsReadSomewhere blocks e → ⊥)
      → AreRead blocks computations read → AreRead blocks (e ∷ computations) read

-- THE COMPUTATIONS WITH TEMPORARIES of a graph: of those in code that paths reach, each once and in the order in which
-- they come first.
pub record AreTreated (blocks : List Block) (treated : List Computation) : Type 0 where
  pub reached : ℕ → Bool
  pub just : AreReached blocks reached
  pub computations : List Computation
  pub once : AreOnce (computed_in reached 0 blocks) computations
  pub read : AreRead blocks computations treated

-- a path comes to a point, and the rule inserts a computation there
abbrev pub IsDoneAt : List Block → Computation → Point → Type 0
IsDoneAt blocks e p = IsCome blocks p × IsInserted blocks e p

-- a path comes to a point, and the instruction there reads the temporary of a computation
abbrev pub IsReadAt : List Block → Computation → Point → Type 0
IsReadAt blocks e p = IsCome blocks p × IsRead blocks e p

-- WHAT IS DONE AT A POINT: of computations, whose temporaries are numbered on from a name, just those that the rule
-- inserts there, in order, each into its temporary.
pub data AreDoneAt (blocks : List Block) (p : Point) : (name : ℕ) → (treated : List Computation)
    → (done : List Instruction) → Type 0 where
  no_computation : {name : ℕ} → AreDoneAt blocks p name [] []
  one_done : {name : ℕ} {e : Computation} {more : List Computation} {rest : List Instruction} → IsDoneAt blocks e p
      → AreDoneAt blocks p (suc name) more rest → AreDoneAt blocks p name (e ∷ more) (doing name e ∷ rest)
  one_passed : {name : ℕ} {e : Computation} {more : List Computation} {rest : List Instruction}
      → (IsDoneAt blocks e p → ⊥) → AreDoneAt blocks p (suc name) more rest → AreDoneAt blocks p name (e ∷ more) rest

-- The blocks of a graph, the name of its first temporary, and the computations with temporaries.
module _ (blocks : List Block) (first : ℕ) (treated : List Computation) where
  -- what is done at a point of the graph
  abbrev pub AreDone : Point → List Instruction → Type 0
  AreDone p done = AreDoneAt blocks p first treated done

  -- WHAT BECOMES OF AN INSTRUCTION: it stays where it reads no temporary, and else its target is assigned that of its
  -- computation.
  pub data Becomes (p : Point) (i : Instruction) : Instruction → Type 0 where
    stays : ((e : Computation) → IsReadAt blocks e p → ⊥) → Becomes p i i
    reads : (e : Computation) (k x : ℕ) → IsReadAt blocks e p → slice_get treated k ≡ Some e → target_of i ≡ Some x
        → Becomes p i (Move x (Name (first + k)))

  -- WHAT BECOMES OF INSTRUCTIONS of a block that has this number and this end, one after the other: before what becomes
  -- of one stands what is done at its point.
  pub data AreMoved (n : ℕ) (end : End) : (before after : List Instruction) → Type 0 where
    no_more : AreMoved n end [] []
    one_more : {i j : Instruction} {rest done moved : List Instruction} → AreDone (within n (i ∷ rest) end) done
        → Becomes (within n (i ∷ rest) end) i j → AreMoved n end rest moved
        → AreMoved n end (i ∷ rest) (done ++ j ∷ moved)

  -- WHERE AN EDGE LEADS: on directly, where nothing is done on it; else by a block of its own, which has the number
  -- that comes next. There stands what is done on the edge, in the place that holds behind it.
  pub data IsLed (from : ℕ) (place : Option ℕ) (to next : ℕ) : (label : ℕ) → (own : List Block) → Type 0 where
    directly : AreDone (along from to) [] → IsLed from place to next to []
    by_own : {i : Instruction} {more : List Instruction} → AreDone (along from to) (i ∷ more)
        → IsLed from place to next next (record {
          place = place;
          instructions = i ∷ more;
          end = Jump to;
        } ∷ [])

  -- WHAT BECOMES OF AN END: what is done on its only edge stands before it; of two edges each is led by itself.
  pub data IsEnd (from : ℕ) (place : Option ℕ) (next : ℕ) : (before : End) → (done : List Instruction) → (after : End)
      → (own : List Block) → Type 0 where
    returns : {a : Option Operand} → IsEnd from place next (Return a) [] (Return a) []
    jumps : {to : ℕ} {done : List Instruction} → AreDone (along from to) done
        → IsEnd from place next (Jump to) done (Jump to) []
    branches : {c : Comparison} {a b : Operand} {to else label other : ℕ} {own others : List Block}
        → IsLed from place to next label own → IsLed from place else (next + length own) other others
        → IsEnd from place next (Branch c a b to else) [] (Branch c a b label other) (own ++ others)

  -- WHAT BECOMES OF A BLOCK: it keeps its place. The next block on an edge would have the number `next`.
  pub record IsMovedBlock (n next : ℕ) (b c : Block) (own : List Block) : Type 0 where
    pub place : c.place ≡ b.place
    pub moved : List Instruction
    pub instructions : AreMoved n b.end b.instructions moved
    pub done : List Instruction
    pub end : IsEnd n (place_at_end b) next b.end done c.end own
    pub are : c.instructions ≡ moved ++ done

  -- WHAT BECOMES OF BLOCKS from a number on, one after the other, with the blocks on their edges.
  pub data AreMovedBlocks : (n next : ℕ) → (before after own : List Block) → Type 0 where
    no_block : {n next : ℕ} → AreMovedBlocks n next [] [] []
    one_block : {n next : ℕ} {b c : Block} {own rest moved others : List Block} → IsMovedBlock n next b c own
        → AreMovedBlocks (suc n) (next + length own) rest moved others
        → AreMovedBlocks n next (b ∷ rest) (c ∷ moved) (own ++ others)

-- WHAT BECOMES OF A GRAPH: its names get one temporary more for each computation that has one; its blocks stand at
-- their numbers, and behind them those on edges.
pub record IsMoved (g h : Graph) : Type 0 where
  pub keeps : KeepsFunction g h
  pub treated : List Computation
  pub are_treated : AreTreated g.blocks treated
  pub names : h.name_count ≡ g.name_count + length treated
  pub moved : List Block
  pub own : List Block
  pub blocks : AreMovedBlocks g.blocks g.name_count treated 0 (length g.blocks) g.blocks moved own
  pub are : h.blocks ≡ moved ++ own
