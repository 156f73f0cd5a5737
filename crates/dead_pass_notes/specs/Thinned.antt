-- Graphs without some of the writes of others, where notes may say something else.
use Rattle.std.specs.Prelude.{◌≡◌, ℕ, true, Option, None, List, [], ◌∷◌}
use Rattle.event_runs.specs.Agreement.{Pairs}
use Rattle.graph_core.specs.declared.instruction.Callee.{Callee}
use Rattle.graph_core.specs.Graphs.{Operand, NoteValue, Instruction, Note, Call, Block, Graph}
use Rattle.graph_core.specs.Uses.{is_computation}

module _ (MaySay : NoteValue → Type 0) where
  -- Of the instructions before some computations are gone, and some calls have no target any more; a note may say
  -- something else; all others stay, in their order.
  pub data AreThinned : (before after : List Instruction) → Type 0 where
    ends : AreThinned [] []
    goes : {i : Instruction} {before after : List Instruction} → is_computation i ≡ true → AreThinned before after
        → AreThinned (i ∷ before) after
    forgets : {x : Option ℕ} {f : Callee} {all : List Operand} {before after : List Instruction}
        → AreThinned before after → AreThinned (Call x f all ∷ before) (Call None f all ∷ after)
    says : {x : ℕ} {v w : NoteValue} {before after : List Instruction} → MaySay w → AreThinned before after
        → AreThinned (Note x v ∷ before) (Note x w ∷ after)
    stays : {i : Instruction} {before after : List Instruction} → AreThinned before after
        → AreThinned (i ∷ before) (i ∷ after)

  -- A block keeps its place and its end.
  pub record IsThinnedBlock (b c : Block) : Type 0 where
    pub place : c.place ≡ b.place
    pub end : c.end ≡ b.end
    pub instructions : AreThinned b.instructions c.instructions

-- A graph keeps all but its blocks, and those are the ones before, one by one, without some of their writes.
pub record IsThinned (MaySay : Graph → NoteValue → Type 0) (g h : Graph) : Type 0 where
  pub rest : h ≡ record g { blocks = h.blocks }
  pub blocks : Pairs (IsThinnedBlock (MaySay g)) g.blocks h.blocks
