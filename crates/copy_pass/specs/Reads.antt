-- Reads that a pass replaced.
use Rattle.std.specs.Prelude.{◌≡◌, ◌≢◌, ℕ, Some, List, length, slice_get}
use Rattle.graph_core.specs.Graphs.{Instruction, End, Graph}
use Rattle.graph_core.specs.Points.{StandsWith, reads_at}
use Rattle.graph_core.specs.WellMarked.{IsVariable}
use Rattle.pass_law.specs.declared.cases.Case.{Case}

-- Of what was read and what is read, an operand was a read of this name and is one of another.
pub record IsOther (was is : List ℕ) (operand x : ℕ) : Type 0 where
  pub y : ℕ
  pub before : slice_get was operand ≡ Some x
  pub after : slice_get is operand ≡ Some y
  pub differs : y ≢ x

-- A READ THAT WAS REPLACED. At one point of the graphs before and after, in the place of the case and behind as many
-- instructions of its block as it says, its operand was a read of its variable, and is a read of another name.
pub record IsReplacedRead (g h : Graph) (c : Case) : Type 0 where
  pub rest : List Instruction
  pub later : List Instruction
  pub end : End
  pub later_end : End
  pub stood : StandsWith g c.place.0 c.block rest end
  pub stands : StandsWith h c.place.0 c.block later later_end
  pub index : length stood.before ≡ c.index
  pub still : length stands.before ≡ c.index
  pub at_one_point : length later ≡ length rest
  pub x : ℕ
  pub other : IsOther (reads_at rest end) (reads_at later later_end) c.operand x
  pub variable : IsVariable g x c.var.0
