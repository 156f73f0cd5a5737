-- What the removal of dead assignments makes of a graph.
use Rattle.std.specs.Prelude.{◌≡◌, ℕ, Option, Some, None, List, [], ◌∷◌, ◌++◌, length, slice_get}
use Rattle.places.specs.declared.flow.Assignment.{Assignment}
use Rattle.graph_core.specs.Graphs.{NoteValue, Instruction, Note, Call, End, Block, Graph}
use Rattle.graph_paths.specs.Reached.{IsReached}
use Rattle.dead_pass_rule.specs.Idle.{Goes}

-- what is left of an instruction whose write goes: of a call the call without its target, of a computation nothing
abbrev pub without : Instruction → List Instruction
without (Call x f all) = Call None f all ∷ []
without _ = []

-- What is left of one whose write does not go, or that writes nothing: itself; of a note to which a path comes a note
-- of the same scalar.
pub data StaysAs (g : Graph) (n : ℕ) (rest : List Instruction) (e : End) : Instruction → Instruction → Type 0 where
  same : {i : Instruction} → StaysAs g n rest e i i
  noted : {x : ℕ} {v w : NoteValue} → IsReached g n (Note x v ∷ rest) e → StaysAs g n rest e (Note x v) (Note x w)

-- What is left of the instructions of a block, in their order.
pub data AreReduced (assignments : List Assignment) (g : Graph) (n : ℕ) (e : End) : (before after : List Instruction)
    → Type 0 where
  ends : AreReduced assignments g n e [] []
  gone : {i : Instruction} {rest after : List Instruction} → Goes assignments g n (i ∷ rest) e
      → AreReduced assignments g n e rest after → AreReduced assignments g n e (i ∷ rest) (without i ++ after)
  stays : {i j : Instruction} {rest after : List Instruction} → (Goes assignments g n (i ∷ rest) e → ⊥)
      → StaysAs g n rest e i j → AreReduced assignments g n e rest after
      → AreReduced assignments g n e (i ∷ rest) (j ∷ after)

-- A block keeps its place and its end.
pub record IsReducedBlock (assignments : List Assignment) (g : Graph) (n : ℕ) (b c : Block) : Type 0 where
  pub place : c.place ≡ b.place
  pub end : c.end ≡ b.end
  pub instructions : AreReduced assignments g n b.end b.instructions c.instructions

-- THE REMOVAL OF DEAD ASSIGNMENTS, of a unit with these assignments. The graph after is the one before without the
-- writes that go: which these are, the graph before says. All else stays, but that notes may say another value.
pub record IsReduced (assignments : List Assignment) (g h : Graph) : Type 0 where
  pub rest : h ≡ record g { blocks = h.blocks }
  pub count : length h.blocks ≡ length g.blocks
  pub blocks : (n : ℕ) (b c : Block) → slice_get g.blocks n ≡ Some b → slice_get h.blocks n ≡ Some c
      → IsReducedBlock assignments g n b c
