-- What lazy code motion makes of a graph, as marks see it: each instruction stays, or reads a temporary in place of its
-- computation, and between them computations are done into temporaries.
use Rattle.std.specs.Prelude.{◌≡◌, ℕ, ◌≤◌, Option, Some, List, [], ◌∷◌, slice_get}
use Rattle.std.specs.List.{AllByRecursion}
use Rattle.word_base.specs.declared.operation.Operation.{Operation}
use Rattle.word_base.specs.declared.operation.Truncation.{Truncation}
use Rattle.graph_core.specs.Graphs.{Operand, Name, Instruction, Move, Operate, Truncate, Same, End, Jump, Return, Block, Graph}
use Rattle.graph_core.specs.Uses.{reads_of_end, targets_of}
use Rattle.graph_core.specs.Paths.{Among, Passed, History}
use Rattle.graph_core.specs.Computations.{Computation, computed_by}
use Rattle.motion_pass_points.specs.Ways.{along}
use Rattle.motion_pass_points.specs.MotionPointsComputing.{doing}
use Rattle.motion_pass_placement.specs.Moving.{IsDoneAt}

module _ (g : Graph) where
  -- What becomes of an instruction: it stays, or its target is assigned a temporary that the graph had not, in place of
  -- its computation.
  pub data StaysOrReads : (before after : Instruction) → Type 0 where
    stays : {i : Instruction} → StaysOrReads i i
    of_operate : {x t : ℕ} {o : Operation} {a b : Operand} → g.name_count ≤ t
        → StaysOrReads (Operate x o a b) (Move x (Name t))
    of_truncate : {x t : ℕ} {o : Truncation} {a : Operand} → g.name_count ≤ t
        → StaysOrReads (Truncate x o a) (Move x (Name t))
    of_same : {x t : ℕ} {a b : Operand} → g.name_count ≤ t → StaysOrReads (Same x a b) (Move x (Name t))

  -- An instruction does a computation into a temporary that the graph had not.
  pub record IsDoing (e : Computation) (i : Instruction) : Type 0 where
    pub name : ℕ
    pub fresh : g.name_count ≤ name
    pub is : i ≡ doing name e

  -- A computation can be done before what is left of a block: it is that of the instruction there, or, at the end of
  -- the block, the rule does it on an edge.
  pub data CanBeDone (e : Computation) (n : ℕ) : (rest : List Instruction) → (end : End) → Type 0 where
    of_next : {i : Instruction} {rest : List Instruction} {end : End} → computed_by i ≡ Some e
        → CanBeDone e n (i ∷ rest) end
    on_edge : {end : End} (l : ℕ) → Among l (targets_of end) → IsDoneAt g.blocks e (along n l) → CanBeDone e n [] end

  -- A new instruction before what is left of a block.
  pub record IsNew (n : ℕ) (rest : List Instruction) (end : End) (i : Instruction) : Type 0 where
    pub computation : Computation
    pub does : IsDoing computation i
    pub can : CanBeDone computation n rest end

  -- WHAT WAS PASSED BEFORE, and what was passed after: the same but for new instructions, and for what is read.
  pub data PassedSo : (before after : History) → Type 0 where
    nothing : PassedSo [] []
    one_passed : {p q : Passed} {before after : History} → StaysOrReads p.instruction q.instruction
        → PassedSo before after → PassedSo (p ∷ before) (q ∷ after)
    new_passed : {q : Passed} {before after : History} (e : Computation) → IsDoing e q.instruction
        → PassedSo before after → PassedSo before (q ∷ after)

  module _ (h : Graph) where
    -- A block after is led to from the end of one before: by an edge of that, or it is one of new instructions alone,
    -- from which control goes on as by such an edge.
    pub data IsLedTo (n : ℕ) (end : End) : (label : ℕ) → Type 0 where
      directly : {label : ℕ} → Among label (targets_of end) → IsLedTo n end label
      by_own : {label : ℕ} (c : Block) (to : ℕ) → slice_get h.blocks label ≡ Some c
          → AllByRecursion (IsNew n [] end) c.instructions → Among to (targets_of end) → c.end ≡ Jump to
          → IsLedTo n end label

    -- An end after stands for one before.
    pub record EndsSo (n : ℕ) (end last : End) : Type 0 where
      pub targets : (label : ℕ) → Among label (targets_of last) → IsLedTo n end label
      pub returns : (a : Option Operand) → last ≡ Return a → end ≡ Return a
      pub reads : (t : ℕ) → Among t (reads_of_end last) → Among t (reads_of_end end)

    -- WHAT IS LEFT of a block before, and of one after, with their ends.
    pub data AreLeft (n : ℕ) (end last : End) : (before after : List Instruction) → Type 0 where
      none_left : EndsSo n end last → AreLeft n end last [] []
      one_left : {i j : Instruction} {before after : List Instruction} → StaysOrReads i j
          → AreLeft n end last before after → AreLeft n end last (i ∷ before) (j ∷ after)
      new_left : {i : Instruction} {before after : List Instruction} → IsNew n before end i
          → AreLeft n end last before after → AreLeft n end last before (i ∷ after)

    -- A block was made of one: it keeps its place, and all of it is left.
    pub record IsMadeOf (n : ℕ) (b c : Block) : Type 0 where
      pub place : c.place ≡ b.place
      pub left : AreLeft n b.end c.end b.instructions c.instructions

    -- A block after was made of that of its number, or it is one of new instructions on an edge from some block.
    pub data IsAfter (n : ℕ) (c : Block) : Type 0 where
      of_block : (b : Block) → slice_get g.blocks n ≡ Some b → IsMadeOf n b c → IsAfter n c
      of_edge : (m : ℕ) (b : Block) → slice_get g.blocks m ≡ Some b → AreLeft m b.end c.end [] c.instructions
          → IsAfter n c

-- A GRAPH WAS MADE OF ANOTHER, as marks see it: it is of the same function, each block became the one of its number,
-- and each of its blocks is of a block or on an edge.
pub record IsMade (g h : Graph) : Type 0 where
  pub entry : h.entry ≡ g.entry
  pub parameters : h.parameters ≡ g.parameters
  pub scalars : h.scalars ≡ g.scalars
  pub objects : h.objects ≡ g.objects
  pub first_moved : h.first_moved ≡ g.first_moved
  pub block : (n : ℕ) (b : Block) → slice_get g.blocks n ≡ Some b
      → (c : Block) × (slice_get h.blocks n ≡ Some c) × IsMadeOf g h n b c
  pub back : (n : ℕ) (c : Block) → slice_get h.blocks n ≡ Some c → IsAfter g h n c
