-- What the removal of dead assignments may leave of a graph.
use Rattle.std.specs.Prelude.{◌≡◌, ℕ, true, Option, Some, None, List, [], ◌∷◌, ⊤}
use Rattle.graph_core.specs.declared.instruction.Callee.{Callee}
use Rattle.graph_core.specs.Graphs.{Operand, NoteValue, Instruction, Note, Call, Block, Graph}
use Rattle.graph_core.specs.Uses.{is_computation}
use Rattle.pass_law.specs.Kept.{KeepsAllButBlocks}

-- What is left of an instruction: itself; nothing of a computation, which only writes a name; of a call the call
-- without its target; of a note a note of the same scalar.
pub data IsLeftAs : Instruction → Option Instruction → Type 0 where
  stays : {i : Instruction} → IsLeftAs i (Some i)
  goes : {i : Instruction} → is_computation i ≡ true → IsLeftAs i None
  untargeted : {x : Option ℕ} {f : Callee} {all : List Operand} → IsLeftAs (Call x f all) (Some (Call None f all))
  noted : {x : ℕ} {v w : NoteValue} → IsLeftAs (Note x v) (Some (Note x w))

-- What is left of instructions, in their order.
pub data AreLeft : List Instruction → List Instruction → Type 0 where
  none : AreLeft [] []
  kept : {i j : Instruction} {rest left : List Instruction} → IsLeftAs i (Some j) → AreLeft rest left
      → AreLeft (i ∷ rest) (j ∷ left)
  gone : {i : Instruction} {rest left : List Instruction} → IsLeftAs i None → AreLeft rest left
      → AreLeft (i ∷ rest) left

-- A block keeps its place and its end.
pub record IsLeftBlock (b c : Block) : Type 0 where
  pub place : c.place ≡ b.place
  pub end : c.end ≡ b.end
  pub instructions : AreLeft b.instructions c.instructions

-- block by block
abbrev pub AreLeftBlocks : (before after : List Block) → Type 0
AreLeftBlocks [] [] = ⊤
AreLeftBlocks [] (c ∷ after) = ⊥
AreLeftBlocks (b ∷ before) [] = ⊥
AreLeftBlocks (b ∷ before) (c ∷ after) = IsLeftBlock b c × AreLeftBlocks before after

-- What is left of a graph: all but its blocks, and of these what may be left.
pub record IsLeftGraph (g h : Graph) : Type 0 where
  pub keeps : KeepsAllButBlocks g h
  pub blocks : AreLeftBlocks g.blocks h.blocks
