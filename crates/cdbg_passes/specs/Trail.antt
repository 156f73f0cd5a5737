-- What each step is by which passes lead from one unit to another.
use Rattle.std.specs.Prelude.{◌⊎◌}
use Rattle.debug_records.specs.declared.change.PassName.{PassName}
use Rattle.graph_core.specs.Graphs.{UnitForm}
use Rattle.pass_law.specs.Keeps.{Keeps}
use Rattle.pass_law.specs.Logs.{LogsWell}
use Rattle.cdbg_passes.specs.Earned.{AreEarned}
use Rattle.cdbg_passes.specs.NothingLeft.{AreOptimal}
use Rattle.cdbg_passes.specs.Steps.{MovesCode, PropagatesCopies, RemovesDead}

-- a step of one of the program's passes
abbrev pub IsStepOfProgram : (u v : UnitForm) → Type 0
IsStepOfProgram u v = PropagatesCopies u v ⊎ (MovesCode u v ⊎ RemovesDead u v)

-- A STEP ON A TRAIL: its pass, which has this name, makes it, what the unit before does is kept, and what the pass logs
-- is logged well. Each change that a step of copy propagation, of code motion or of the removal of dead assignments
-- logs is earned, whatever the homes; and what a step of code motion makes is computationally optimal, function by
-- function, but where one was left for a bound.
pub record IsOnTrail (pass : PassName) (steps : UnitForm → UnitForm → Type 0) (u v : UnitForm) : Type 0 where
  pub step : steps u v
  pub keeps : Keeps u v
  pub logs : LogsWell pass u v
  pub earned : IsStepOfProgram u v → AreEarned u v
  pub optimal : MovesCode u v → AreOptimal u.room u.graphs v.graphs
