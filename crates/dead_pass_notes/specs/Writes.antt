-- Writes that the removal of dead assignments took away.
use Rattle.std.specs.Prelude.{◌≡◌, ℕ, Some, List, ◌∷◌, length}
use Rattle.places.specs.declared.flow.Assignment.{Assignment}
use Rattle.graph_core.specs.Graphs.{Instruction, End, Graph}
use Rattle.graph_core.specs.Points.{StandsWith}
use Rattle.graph_core.specs.Uses.{target_of}
use Rattle.graph_core.specs.WellMarked.{IsVariable}
use Rattle.pass_law.specs.declared.cases.Case.{Case}
use Rattle.dead_pass_rule.specs.Idle.{Goes}

-- AN ASSIGNMENT THAT WAS REMOVED. At a point of the graph before, in the place of the case and behind as many
-- instructions of its block as it says, an instruction that goes writes the scalar of its variable. It is no read, so
-- its operand is 0.
pub record IsRemovedWrite (assignments : List Assignment) (g : Graph) (c : Case) : Type 0 where
  pub instruction : Instruction
  pub rest : List Instruction
  pub end : End
  pub stood : StandsWith g c.place.0 c.block (instruction ∷ rest) end
  pub index : length stood.before ≡ c.index
  pub goes : Goes assignments g c.block (instruction ∷ rest) end
  pub x : ℕ
  pub written : target_of instruction ≡ Some x
  pub variable : IsVariable g x c.var.0
  pub no_read : c.operand ≡ 0
