-- What stays of a graph from which dead assignments are removed.
use Rattle.std.specs.Prelude.{◌≡◌, ℕ, true, Some, None, List, ◌∷◌}
use Rattle.places.specs.declared.flow.Assignment.{Assignment}
use Rattle.graph_core.specs.declared.instruction.Callee.{Callee}
use Rattle.graph_core.specs.Graphs.{Operand, Instruction, Call, End, Graph, Logged}
use Rattle.graph_core.specs.Paths.{is_bound}
use Rattle.graph_core.specs.Points.{StandsWith}
use Rattle.graph_core.specs.Uses.{target_of}
use Rattle.dead_pass_rule.specs.Idle.{Goes}
use Rattle.dead_pass_notes.specs.Said.{SaysAs}

-- What is left of an instruction behind which these stand: where it does not go, itself, or of a note what it shall
-- say; of a call whose write goes the call without its target.
pub data IsLeft (assignments : List Assignment) (log : List Logged) (g : Graph) (n : ℕ) (rest : List Instruction)
    (e : End) : Instruction
    → Instruction → Type 0 where
  stays : {i j : Instruction} → (Goes assignments g n (i ∷ rest) e → ⊥) → SaysAs assignments log g n rest e i j
      → IsLeft assignments log g n rest e i j
  untargeted : {x : ℕ} {f : Callee} {all : List Operand} → Goes assignments g n (Call (Some x) f all ∷ rest) e
      → IsLeft assignments log g n rest e (Call (Some x) f all) (Call None f all)

-- A name is written in a place by what stays: by an instruction that does not go, or, at the entry, by the call that
-- binds the parameters to it.
pub data StaysWritten (assignments : List Assignment) (g : Graph) (p x : ℕ) : Type 0 where
  instruction : {n : ℕ} {i : Instruction} {rest : List Instruction} {e : End} → StandsWith g p n (i ∷ rest) e
      → target_of i ≡ Some x → (Goes assignments g n (i ∷ rest) e → ⊥) → StaysWritten assignments g p x
  bound : p ≡ g.entry → is_bound x g.parameters ≡ true → StaysWritten assignments g p x

-- A write of a name that goes stands in a place.
pub record GoesIn (assignments : List Assignment) (g : Graph) (p x : ℕ) : Type 0 where
  pub n : ℕ
  pub instruction : Instruction
  pub rest : List Instruction
  pub end : End
  pub stands : StandsWith g p n (instruction ∷ rest) end
  pub target : target_of instruction ≡ Some x
  pub goes : Goes assignments g n (instruction ∷ rest) end
