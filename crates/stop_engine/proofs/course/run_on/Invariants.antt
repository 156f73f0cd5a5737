use Rattle.std.proofs.Common.{List, ◌≤◌, vec_capacity}
use Rattle.rv_machine.specs.Run.{MachineEvent, machine_run}
use Rattle.stop_engine.specs.declared.course.TheConstants.{ROOM}
use Rattle.stop_engine.specs.Executing.{Executes}
use Rattle.stop_engine.specs.Marking.{aim_of}
use Rattle.stop_engine.specs.Passing.{PassesBy}
use Rattle.stop_engine_view.specs.Run.{stop_addresses}
use Rattle.stop_engine.proofs.course.run_on.Given as goal

abbrev pub invariant-loop-left : goal.invariant-loop-left
invariant-loop-left l =
    (ROOM ≤ vec_capacity l.output)
    × ((events : List MachineEvent) → PassesBy l.table (aim_of l.aim) events l.fn.output.items (machine_run (stop_addresses l.table) l.fn.left l.fn.machine)
    → PassesBy l.table (aim_of l.aim) events l.output.items (machine_run (stop_addresses l.table) l.left l.machine))
    × Executes l.fn.left l.fn.machine l.left l.machine

abbrev pub decreases-loop-left : goal.decreases-loop-left
decreases-loop-left l = l.left
