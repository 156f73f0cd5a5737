-- Where a run halts: the position, the line, and the events from there on.
use Rattle.std.specs.Prelude.{ℕ, Option, Some, None, option_map, List, [], ◌∷◌, map}
use Rattle.std.specs.Option.{option_map_or}
use Rattle.image_form.specs.Form.{Form, numbered}
use Rattle.image_form.specs.Names.{function_name}
use Rattle.image_form.specs.RulesOfFunctions.{IsPlaceNumber}
use Rattle.image_form.specs.declared.tables.Place.{Place}
use Rattle.line_form.specs.Lines.{stop_line, exit_line, depth_line, fault_line, limit_line}
use Rattle.rv_machine.specs.State.{MachineState}
use Rattle.rv_machine.specs.Run.{MachineEvent, Byte, Arrival, Exit, TooDeep, Faulted}
use Rattle.stop_engine.specs.declared.halt.Halt.{Halt}
use Rattle.stop_engine.specs.declared.halt.Halt.TheVariants as halt
use Rattle.stop_engine_view.specs.Reading.{place_at, depth}
use Rattle.stop_engine.specs.Transcript.{Ending, Exits, NestsTooDeep, Faults, Limit, Position, Fresh, Standing, Over}

-- the halt that an ending is
abbrev pub halt_of : Ending → Halt
halt_of (Exits status) = halt.Exited status
halt_of NestsTooDeep = halt.Depth
halt_of (Faults address) = halt.Fault address
halt_of Limit = halt.Limit

-- The halt of a position: at a stop the number of its place and the depth there; before the first instruction there is
-- none.
abbrev pub halt_at : Form → Position → Option Halt
halt_at m Fresh = None
halt_at m (Standing s) = option_map (λ place. halt.At place (depth s)) (place_at m s.pc)
halt_at m (Over e) = Some (halt_of e)

-- the position of a session that came to this halt, with the machine in this state
abbrev pub halted_at : Halt → MachineState → Position
halted_at (halt.At place d) s = Standing s
halted_at (halt.Exited status) s = Over (Exits status)
halted_at halt.Depth s = Over NestsTooDeep
halted_at (halt.Fault address) s = Over (Faults address)
halted_at halt.Limit s = Over Limit

-- a halt at a stop names a place of the image
abbrev pub IsHaltOf : Form → Halt → Type 0
IsHaltOf m (halt.At place d) = IsPlaceNumber m place
IsHaltOf m (halt.Exited status) = Unit {0}
IsHaltOf m halt.Depth = Unit {0}
IsHaltOf m (halt.Fault address) = Unit {0}
IsHaltOf m halt.Limit = Unit {0}

-- the line that says where a run halted
abbrev pub halt_line : Form → (limit : ℕ) → Halt → List ℕ
halt_line m limit (halt.At place d) =
    option_map_or (λ (p : Place). stop_line place p.line (function_name m p.function) d) (numbered m.places place) []
halt_line m limit (halt.Exited status) = exit_line status
halt_line m limit halt.Depth = depth_line
halt_line m limit (halt.Fault address) = fault_line address
halt_line m limit halt.Limit = limit_line limit

-- the events of output
abbrev pub byte_events : List ℕ → List MachineEvent
byte_events bytes = map Byte bytes

-- the events from a halt on, the halt's own first; that no instruction is left is no event
abbrev pub from_halt : Halt → MachineState → List MachineEvent → List MachineEvent
from_halt (halt.At place d) s events = Arrival s ∷ events
from_halt (halt.Exited status) s events = Exit status ∷ []
from_halt halt.Depth s events = TooDeep ∷ []
from_halt (halt.Fault address) s events = Faulted address ∷ []
from_halt halt.Limit s events = []

-- the events from an instruction's end on, where it may have come to a halt
abbrev pub from_here : Option Halt → MachineState → List MachineEvent → List MachineEvent
from_here None s events = events
from_here (Some h) s events = from_halt h s events

-- the events behind a halt: those that are left behind a stop, and none behind an ending
abbrev pub left_behind : Halt → List MachineEvent → List MachineEvent
left_behind (halt.At place d) events = events
left_behind (halt.Exited status) events = []
left_behind halt.Depth events = []
left_behind (halt.Fault address) events = []
left_behind halt.Limit events = []
