-- What meets at a stop: the program's run, its unit's, the unit's over homes, and the machine's.
use Rattle.std.specs.Prelude.{◌≡◌, ℕ, List, ◌∷◌, length, map}
use Rattle.rv_machine.specs.State.{MachineState}
use Rattle.c_tree.specs.Programs.{ProgramTree}
use Rattle.c_meaning_values.specs.Memory as source-memory
use Rattle.c_meaning_steps.specs.declared.event.Frame as source-frame
use Rattle.c_meaning_steps.specs.States.{Shown}
use Rattle.graph_core.specs.Runs.{Configuration, frame}
use Rattle.graph_build_runs.specs.Typed.{AreTyped, OwnersDiffer}
use Rattle.graph_build_runs.specs.Correspondence as source
use Rattle.graph_homes.specs.Homed.{HomedForm, over_homes}
use Rattle.home_assign.specs.Alike.{AreSame, AreShown}
use Rattle.rv_emit_tables.specs.Emitted.{EmittedForm}
use Rattle.rv_emit_runs.specs.Laid.{Arrangement}
use Rattle.rv_emit_runs.specs.Standing as machine
use Rattle.graph_homes.specs.Owned.{IsRunning}
use Rattle.image_build.specs.Sources.{IsStopOf}

-- The program is at a stop, its unit is there with the same activations and the same memory, over homes too, where what
-- recipes say is so, and the machine stands where the unit over homes is.
pub record MeetAt (p : ProgramTree) (h : HomedForm) (e : EmittedForm) (a : Arrangement) (place deep : ℕ)
    (activations : List source-frame.Frame) (visible : List Shown) (memory : source-memory.Memory) (s : MachineState)
    : Type 0 where
  pub upper : Configuration
  pub lower : Configuration
  pub stop : IsStopOf p place deep visible memory
  pub at : source.StandsAt place activations
  pub many : deep ≡ length activations
  pub frames : source.SameFrames p memory upper.memory h.unit activations (frame upper.here ∷ map frame upper.waiting)
  pub typed : AreTyped memory
  pub differ : OwnersDiffer memory
  pub holds : source.SameMemory p memory upper.memory
  pub same : AreSame h upper lower
  pub shown : AreShown h upper.here lower.here
  pub running : IsRunning (over_homes h) lower
  pub stands : machine.StandsAt h e a lower s
  pub code : s.code ≡ e.code
