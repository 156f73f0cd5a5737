-- The transcript of a script over an image: its lines are made of the image and of the events of its run alone.
use Rattle.std.specs.Prelude.{ℕ, zero, suc, ◌==◌, ◌||◌, nat_le, ℤ, Option, Some, None, Bool, true, false, if◌then◌else◌, List, [], ◌∷◌, ◌++◌}
use Rattle.std.specs.Option.{option_map_or}
use Rattle.std.specs.List.{flat_map, list_any}
use Rattle.image_form.specs.Form.{Form, numbered}
use Rattle.image_form.specs.Names.{function_name}
use Rattle.image_form.specs.declared.tables.Place.{Place}
use Rattle.rv_machine.specs.State.{MachineState}
use Rattle.rv_machine.specs.Run.{MachineEvent, Byte, Arrival, Exit, TooDeep, Faulted}
use Rattle.line_form.specs.Lines.{line, out_lines, stop_line, exit_line, depth_line, fault_line, limit_line, no_stop_line, break_line, no_place_line, no_function_line}
use Rattle.script_form.specs.Script.{Order, Break, Step, Continue, Next, Finish, Print, Locals, Where, Quit, Mark, OnLine, InFunction}
use Rattle.stop_engine.specs.Breaks.{break_places}
use Rattle.stop_engine.specs.Shown.{locals_lines, where_lines}
use Rattle.stop_engine_texts.specs.Shown.{name_sight}
use Rattle.stop_engine_texts.specs.Sight.{Sight, NoStop, sight_line}
use Rattle.stop_engine_view.specs.Reading.{place_at, depth}
use Rattle.stop_engine_view.specs.Run.{image_run}

-- why a run is over: it exited with a status, its calls nested too deep, it faulted at an address, or its instructions
-- are used up
pub data Ending : Type 0 where
  Exits : (status : ℤ) → Ending
  NestsTooDeep : Ending
  Faults : (address : ℕ) → Ending
  Limit : Ending

-- where a session stands: before the first instruction, at a stop, or behind the end
pub data Position : Type 0 where
  Fresh : Position
  Standing : MachineState → Position
  Over : Ending → Position

-- where a run is to halt: at any stop; at one of these places; or at one of these places and where the depth is at most
-- so
pub data Aim : Type 0 where
  AnyStop : Aim
  OneOf : List ℕ → Aim
  Within : (most : ℕ) → List ℕ → Aim

-- whether a place is one of some
abbrev pub is_among_places : List ℕ → (place : ℕ) → Bool
is_among_places places place = list_any (λ p. p == place) places

-- whether a run with this aim halts at a stop, by its depth and its place
abbrev pub aims_at : Aim → (deep place : ℕ) → Bool
aims_at AnyStop deep place = true
aims_at (OneOf places) deep place = is_among_places places place
aims_at (Within most places) deep place = is_among_places places place || nat_le deep most

-- whether it halts where it arrives at a stop in this state
abbrev pub is_aim : Form → Aim → MachineState → Bool
is_aim m aim s = option_map_or (aims_at aim (depth s)) (place_at m s.pc) false

-- what a run to a halt gives: the output before it, where it stands then, and the events that are left
pub record Reach : Type 0 where
  pub output : List ℕ
  pub position : Position
  pub rest : List MachineEvent

-- a byte is put before the output of what was reached
abbrev pub with_output : ℕ → Reach → Reach
with_output byte r = record r { output = byte ∷ r.output }

-- From these events to the next stop of the aim or to the ending. Other stops are passed by; where no event is left,
-- the instructions are used up.
abbrev pub reached : Form → Aim → List MachineEvent → Reach
reached m aim [] = record { output = []; position = Over Limit; rest = [] }
reached m aim (Byte b ∷ events) = with_output b (reached m aim events)
reached m aim (Arrival s ∷ events) =
    if is_aim m aim s then (record { output = []; position = Standing s; rest = events }) else reached m aim events
reached m aim (Exit v ∷ events) = record { output = []; position = Over (Exits v); rest = events }
reached m aim (TooDeep ∷ events) = record { output = []; position = Over NestsTooDeep; rest = events }
reached m aim (Faulted a ∷ events) = record { output = []; position = Over (Faults a); rest = events }

-- A run goes on from where the session stands. Behind an ending nothing runs any more, and the ending is said again.
abbrev pub ran : Form → Aim → Position → List MachineEvent → Reach
ran m aim Fresh events = reached m aim events
ran m aim (Standing s) events = reached m aim events
ran m aim (Over e) events = record { output = []; position = Over e; rest = events }

-- the line of a stop at a place
abbrev pub place_line : Form → MachineState → ℕ → List ℕ
place_line m s number =
    option_map_or (λ (p : Place). stop_line number p.line (function_name m p.function) (depth s))
    (numbered m.places number) []

-- the line that says where the session stands
abbrev pub ending_line : (limit : ℕ) → Ending → List ℕ
ending_line limit (Exits v) = exit_line v
ending_line limit NestsTooDeep = depth_line
ending_line limit (Faults a) = fault_line a
ending_line limit Limit = limit_line limit

-- the line that says where the run stands: that there is no stop, the place of the stop, or how the run ended
abbrev pub position_line : Form → (limit : ℕ) → Position → List ℕ
position_line m limit Fresh = no_stop_line
position_line m limit (Standing s) = option_map_or (place_line m s) (place_at m s.pc) []
position_line m limit (Over e) = ending_line limit e

-- the lines of a run: the output before the stop or ending, and where the session then stands
abbrev pub run_lines : Form → (limit : ℕ) → Reach → List (List ℕ)
run_lines m limit r = out_lines r.output ++ position_line m limit r.position ∷ []

-- what `break` says where it finds no place
abbrev pub nothing_to_mark : Mark → List ℕ
nothing_to_mark (OnLine n) = no_place_line n
nothing_to_mark (InFunction name) = no_function_line name

-- what `break` says: the places that it marks
abbrev pub marked_line : Mark → (places : List ℕ) → List ℕ
marked_line mark [] = nothing_to_mark mark
marked_line mark (place ∷ places) = break_line (place ∷ places)

-- what is said of a stop, by the state and the place; where the session stands at none, that is said
abbrev pub at_stop : Form → Position → (MachineState → ℕ → List (List ℕ)) → List (List ℕ)
at_stop m Fresh said = no_stop_line ∷ []
at_stop m (Standing s) said = option_map_or (said s) (place_at m s.pc) []
at_stop m (Over e) said = no_stop_line ∷ []

-- what is seen of a name where the session stands
abbrev pub sight_of_name : Form → Position → (name : List ℕ) → Sight
sight_of_name m Fresh name = NoStop
sight_of_name m (Standing s) name = option_map_or (λ place. name_sight m s place name) (place_at m s.pc) NoStop
sight_of_name m (Over e) name = NoStop

-- `next` runs to a marked place, or to a stop that is no deeper than the present one; at no stop it is a `step`
abbrev pub next_aim : (marks : List ℕ) → Position → Aim
next_aim marks Fresh = AnyStop
next_aim marks (Standing s) = Within (depth s) marks
next_aim marks (Over e) = AnyStop

-- marked places, and where the depth is below this one; nothing is less deep than 0
abbrev pub below : (deep : ℕ) → (marks : List ℕ) → Aim
below zero marks = OneOf marks
below (suc deep) marks = Within deep marks

-- `finish` runs to a marked place, or to a stop that is less deep than the present one; before the first instruction it
-- runs nowhere
abbrev pub finish_aim : (marks : List ℕ) → Position → Option Aim
finish_aim marks Fresh = None
finish_aim marks (Standing s) = Some (below (depth s) marks)
finish_aim marks (Over e) = Some (OneOf marks)

-- A session: the places that are marked, where it stands, and the events that are left.
pub record Session : Type 0 where
  pub marks : List ℕ
  pub position : Position
  pub events : List MachineEvent

-- the run that an order makes
abbrev pub run_of : Form → Session → Aim → Reach
run_of m s aim = ran m aim s.position s.events

-- the lines of an order
abbrev pub said : Form → (limit : ℕ) → Session → Order → List (List ℕ)
said m limit s (Break mark) = marked_line mark (break_places m mark) ∷ []
said m limit s Step = run_lines m limit (run_of m s AnyStop)
said m limit s Continue = run_lines m limit (run_of m s (OneOf s.marks))
said m limit s Next = run_lines m limit (run_of m s (next_aim s.marks s.position))
said m limit s Finish =
    option_map_or (λ aim. run_lines m limit (run_of m s aim)) (finish_aim s.marks s.position) (no_stop_line ∷ [])
said m limit s (Print name) = sight_line name (sight_of_name m s.position name) ∷ []
said m limit s Locals = at_stop m s.position (locals_lines m)
said m limit s Where = at_stop m s.position (where_lines m)
said m limit s Quit = []

-- the session behind a run
abbrev pub session_behind : Session → Reach → Session
session_behind s r = record { marks = s.marks; position = r.position; events = r.rest }

-- the session behind an order
abbrev pub session_after : Form → Session → Order → Session
session_after m s (Break mark) = record s { marks = s.marks ++ break_places m mark }
session_after m s Step = session_behind s (run_of m s AnyStop)
session_after m s Continue = session_behind s (run_of m s (OneOf s.marks))
session_after m s Next = session_behind s (run_of m s (next_aim s.marks s.position))
session_after m s Finish = option_map_or (λ aim. session_behind s (run_of m s aim)) (finish_aim s.marks s.position) s
session_after m s (Print name) = s
session_after m s Locals = s
session_after m s Where = s
session_after m s Quit = s

-- `quit` ends a session
abbrev pub is_quit : Order → Bool
is_quit (Break mark) = false
is_quit Step = false
is_quit Continue = false
is_quit Next = false
is_quit Finish = false
is_quit (Print name) = false
is_quit Locals = false
is_quit Where = false
is_quit Quit = true

-- the lines of orders, one after the other; what comes behind `quit` is not answered
abbrev pub lines_from : Form → (limit : ℕ) → Session → List Order → List (List ℕ)
lines_from m limit s [] = []
lines_from m limit s (o ∷ orders) =
    said m limit s o ++ (if is_quit o then [] else lines_from m limit (session_after m s o) orders)

-- a session before its first order: nothing is marked, and nothing of the image has run
abbrev pub fresh_session : Form → (input : List ℕ) → (limit : ℕ) → Session
fresh_session m input limit = record { marks = []; position = Fresh; events = image_run m input limit }

-- the lines of a script over an image, with an input and a limit on the instructions
abbrev pub transcript : Form → List Order → (input : List ℕ) → (limit : ℕ) → List (List ℕ)
transcript m orders input limit = lines_from m limit (fresh_session m input limit) orders

-- its bytes: each line with its end
abbrev pub transcript_bytes : Form → List Order → (input : List ℕ) → (limit : ℕ) → List ℕ
transcript_bytes m orders input limit = flat_map line (transcript m orders input limit)
