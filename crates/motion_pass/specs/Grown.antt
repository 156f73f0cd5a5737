-- Graphs with more computations than others: they stand between the instructions before, or in place of computations,
-- or in blocks of their own on edges.
use Rattle.std.specs.Prelude.{◌≡◌, ℕ, ◌≤◌, true, Option, Some, List, [], ◌∷◌, ◌++◌, slice_get, ⊤}
use Rattle.std.specs.List.{AllByRecursion}
use Rattle.event_runs.specs.Agreement.{Pairs}
use Rattle.graph_core.specs.declared.block.Comparison.{Comparison}
use Rattle.graph_core.specs.Bounds.{most_names, most_instructions_of_function}
use Rattle.graph_core.specs.Graphs.{Operand, Instruction, Marker, End, Jump, Branch, Return, Block, Graph}
use Rattle.graph_core.specs.Paths.{Among}
use Rattle.graph_core.specs.Uses.{is_computation, targets_of}
use Rattle.graph_core.specs.Validity.{instructions_of, place_at_end}

-- The first of these instructions, if there is one, is no marker.
abbrev pub BeginNoPlace : List Instruction → Type 0
BeginNoPlace (Marker p ∷ more) = ⊥
BeginNoPlace _ = ⊤

-- what computations may stand there
module _ (May : Instruction → Type 0) where
  -- A computation is added before instructions that begin with no marker.
  pub record IsAdded (before : List Instruction) (i : Instruction) : Type 0 where
    pub computes : is_computation i ≡ true
    pub may : May i
    pub begin : BeginNoPlace before

  -- What becomes of an instruction: it stays, or it is a computation in whose place another one stands.
  pub data Turns : (before after : Instruction) → Type 0 where
    stays : {i : Instruction} → Turns i i
    is_replaced : {i j : Instruction} → is_computation i ≡ true → is_computation j ≡ true → May j → Turns i j

  -- The instructions before become those after, in order, and computations are added between them.
  pub data AreGrown : (before after : List Instruction) → Type 0 where
    ends : AreGrown [] []
    adds : {i : Instruction} {before after : List Instruction} → IsAdded before i → AreGrown before after
        → AreGrown before (i ∷ after)
    turns : {i j : Instruction} {before after : List Instruction} → Turns i j → AreGrown before after
        → AreGrown (i ∷ before) (j ∷ after)

  -- A block stands between another, at whose end this place is in force, and the one to which that led: it keeps the
  -- place, and only computes.
  pub record IsBetween (in_force : Option ℕ) (to : ℕ) (c : Block) : Type 0 where
    pub place : c.place ≡ in_force
    pub instructions : AreGrown [] c.instructions
    pub end : c.end ≡ Jump to

  -- A block is on an edge of a graph.
  pub record IsOnEdge (g : Graph) (c : Block) : Type 0 where
    pub from : Block
    pub is : Among from g.blocks
    pub to : ℕ
    pub leads : Among to (targets_of from.end)
    pub between : IsBetween (place_at_end from) to c

  module _ (blocks : List Block) where
    -- Where an edge leads among the blocks after: on directly, or by a block between.
    pub data IsLedTo (place : Option ℕ) (to : ℕ) : (label : ℕ) → Type 0 where
      directly : IsLedTo place to to
      by_own : {label : ℕ} (c : Block) → slice_get blocks label ≡ Some c → IsBetween place to c → IsLedTo place to label

    -- Ends differ in where the edges of a branch lead only.
    pub data IsGrownEnd (place : Option ℕ) : (before after : End) → Type 0 where
      returns : {a : Option Operand} → IsGrownEnd place (Return a) (Return a)
      jumps : {to : ℕ} → IsGrownEnd place (Jump to) (Jump to)
      branches : {k : Comparison} {a b : Operand} {to else label other : ℕ} → IsLedTo place to label
          → IsLedTo place else other → IsGrownEnd place (Branch k a b to else) (Branch k a b label other)

    -- A block keeps its place, and its instructions and its end become those after.
    pub record IsGrownBlock (b c : Block) : Type 0 where
      pub place : c.place ≡ b.place
      pub instructions : AreGrown b.instructions c.instructions
      pub end : IsGrownEnd (place_at_end b) b.end c.end

-- A graph has more names and blocks than another, and stays within bounds: its first blocks are those of the other with
-- what they compute more, and behind them come those on edges.
pub record IsGrown (May : Graph → Instruction → Type 0) (g h : Graph) : Type 0 where
  pub rest : h ≡ record g { name_count = h.name_count; blocks = h.blocks }
  pub more : g.name_count ≤ h.name_count
  pub names : h.name_count ≤ most_names
  pub instructions : instructions_of h ≤ most_instructions_of_function
  pub first : List Block
  pub own : List Block
  pub are : h.blocks ≡ first ++ own
  pub blocks : Pairs (IsGrownBlock (May h) h.blocks) g.blocks first
  pub edges : AllByRecursion (IsOnEdge (May h) g) own
