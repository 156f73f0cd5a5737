-- Where a session stands between two runs.
use Rattle.std.specs.Prelude.{◌≡◌, ℕ, Option, Some, None, List, [], ◌++◌}
use Rattle.image_form.specs.Form.{Form}
use Rattle.rv_machine.specs.State.{MachineState}
use Rattle.rv_machine.specs.Run.{MachineEvent}
use Rattle.stop_engine.specs.declared.halt.Halt.{Halt}
use Rattle.stop_engine.specs.declared.halt.Halt.TheVariants as halt
use Rattle.stop_engine.specs.declared.halt.Standing.{Standing}
use Rattle.stop_engine.specs.declared.halt.Standing.TheVariants.{Fresh, UnderWay, Halted}
use Rattle.stop_engine.specs.Halting.{byte_events, halt_at, halted_at, left_behind}
use Rattle.stop_engine.specs.Transcript as transcript

-- where a session stands that has run so far
abbrev pub position_of : Standing → MachineState → transcript.Position
position_of Fresh s = transcript.Fresh
position_of UnderWay s = transcript.Fresh
position_of (Halted h) s = halted_at h s

-- A session that stands where it halted says so.
abbrev pub IsStanding : Form → Standing → MachineState → Type 0
IsStanding m Fresh s = Unit {0}
IsStanding m UnderWay s = Unit {0}
IsStanding m (Halted h) s = halt_at m (halted_at h s) ≡ Some h

-- The events that no run has answered yet. A run that wanted memory has answered nothing, so its output is among them.
abbrev pub unanswered : Standing → (output : List ℕ) → List MachineEvent → List MachineEvent
unanswered Fresh output events = events
unanswered UnderWay output events = byte_events output ++ events
unanswered (Halted h) output events = left_behind h events

-- the output that no run has answered yet
abbrev pub not_answered : Standing → List ℕ → List ℕ
not_answered Fresh output = []
not_answered UnderWay output = output
not_answered (Halted h) output = []

-- the halt, where it is an ending
abbrev pub ending : Halt → Option Halt
ending (halt.At place d) = None
ending (halt.Exited status) = Some (halt.Exited status)
ending halt.Depth = Some halt.Depth
ending (halt.Fault address) = Some (halt.Fault address)
ending halt.Limit = Some halt.Limit

-- the halt of a session that is over
abbrev pub ending_of : Standing → Option Halt
ending_of Fresh = None
ending_of UnderWay = None
ending_of (Halted h) = ending h

-- the place of the stop at which a session halted
abbrev pub halt_place : Halt → Option ℕ
halt_place (halt.At place d) = Some place
halt_place (halt.Exited status) = None
halt_place halt.Depth = None
halt_place (halt.Fault address) = None
halt_place halt.Limit = None

abbrev pub place_of : Standing → Option ℕ
place_of Fresh = None
place_of UnderWay = None
place_of (Halted h) = halt_place h
