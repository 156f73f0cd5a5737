-- Names that are written once in a place.
use Rattle.std.specs.Prelude.{◌≡◌, ℕ, Some, List, ◌∷◌, length}
use Rattle.graph_core.specs.Graphs.{Instruction, End, Graph}
use Rattle.graph_core.specs.Points.{StandsWith, assignments_in}
use Rattle.graph_core.specs.Uses.{target_of}

-- ONE WRITE. In a place an instruction writes a name, in this block and with so many instructions behind it there, and
-- nothing else writes the name in that place: no other instruction, and at the entry no binding of a parameter.
pub record IsOnce (g : Graph) (p x n left : ℕ) : Type 0 where
  pub instruction : Instruction
  pub rest : List Instruction
  pub end : End
  pub stands : StandsWith g p n (instruction ∷ rest) end
  pub target : target_of instruction ≡ Some x
  pub behind : length rest ≡ left
  pub once : assignments_in g p x ≡ 1
