-- What is kept of a program after passes.
use Rattle.std.specs.Prelude.{◌≡◌}
use Rattle.c_tree.specs.Programs.{ProgramTree}
use Rattle.graph_core.specs.Graphs.{UnitForm}
use Rattle.pass_law.specs.Keeps.{Keeps}
use Rattle.graph_build_laws.specs.Built.{IsBuilt}

-- A UNIT IS KEPT OF A PROGRAM: but for its log it is one that keeps what a unit does that is built of the program.
pub record IsKeptOf (p : ProgramTree) (u : UnitForm) : Type 0 where
  pub first : UnitForm
  pub last : UnitForm
  pub built : IsBuilt p first
  pub keeps : Keeps first last
  pub same : u ≡ record last { log = u.log }
