-- What the unit of a program is, and what it does.
use Rattle.std.specs.Prelude.{◌↔◌, AllPairs}
use Rattle.std.specs.List.{Contains}
use Rattle.places.specs.declared.flow.Assignment.{Assignment}
use Rattle.places.specs.declared.flow.FlowStep.{FlowStep}
use Rattle.places.specs.Flow.{AreInOrder, IsAssignmentBefore}
use Rattle.c_tree.specs.Programs.{ProgramTree}
use Rattle.c_flow.specs.Assigns.{assignments_of_program}
use Rattle.c_flow.specs.Flow.{steps_of_program}
use Rattle.graph_core.specs.Graphs.{UnitForm}
use Rattle.graph_build.specs.Units.{IsUnitOf}
use Rattle.graph_build_laws.specs.Following.{FollowFlow}
use Rattle.graph_build_runs.specs.Correspondence.{DoesProgram}

-- A UNIT IS BUILT OF ITS PROGRAM. It has the code that the forms give, and an empty log; its steps and assignments are
-- the program's, in order and each once; each of its graphs begins with the marker of its entry, its markers follow the
-- flow, and each cycle has one; and on each input it does what the program does, as far as C defines it.
pub record IsBuilt (p : ProgramTree) (u : UnitForm) : Type 0 where
  pub forms : IsUnitOf p u
  pub steps : (s : FlowStep) → Contains u.steps s ↔ Contains (steps_of_program p) s
  pub steps_order : AreInOrder u.steps
  pub assignments : (a : Assignment) → Contains u.assignments a ↔ Contains (assignments_of_program p) a
  pub assignments_order : AllPairs IsAssignmentBefore u.assignments
  pub follows : FollowFlow u
  pub does : DoesProgram p u
