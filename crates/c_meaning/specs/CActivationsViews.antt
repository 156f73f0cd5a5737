-- Activations of the code, and the places and entries that they begin, as contracts see them.
use Rattle.std.specs.Prelude.{◌≡◌, ℕ, Bool, true, false, map}
use Rattle.c_meaning.specs.declared.activation.Activation as declared-activation
use Rattle.c_meaning_steps.specs.declared.event.Stop as declared-stop
use Rattle.c_meaning_values.specs.Memory.{Memory}
use Rattle.c_tree.specs.Programs.{program_view}
use Rattle.c_places.specs.Places.{place_number_at, place_view}
use Rattle.c_meaning_steps.specs.States.{Event, Stop, State}
use Rattle.c_meaning.specs.Activations.{Activation, Begun, Goes, NoTurn, depth_of, frames_at, shown_at}
use Rattle.c_meaning_values.specs.Views.{object_view}
use Rattle.c_meaning_steps.specs.Views.{shown_view}

abbrev pub activation_view : declared-activation.Activation → Activation
activation_view a =
    record {
      program = program_view a.program.now;
      places = map place_view a.places.now;
      function = a.function;
      waiting = a.waiting.now;
    }

-- whether a place was begun, with the state behind it
abbrev pub begun_view : Bool → State → Begun
begun_view true s = Goes s
begun_view false s = NoTurn s

-- the stop at the place at a position
abbrev pub stop_at : Activation → ℕ → Memory → Event
stop_at here at memory =
    Stop (place_number_at here.places at) (depth_of here) (frames_at here (place_number_at here.places at))
    (shown_at here at memory) memory

-- this is the stop at the place at a position
abbrev pub IsStop : Activation → ℕ → Memory → declared-stop.Stop → Type 0
IsStop here at memory s =
    Stop s.place s.depth s.frames.items (map shown_view s.shown.items) (map object_view s.memory.items)
    ≡ Stop (place_number_at here.places at) (depth_of here) (frames_at here (place_number_at here.places at))
    (shown_at here at memory) memory

-- whether an entry was begun
abbrev pub entered_view : Bool → State → Begun
entered_view true s = Goes s
entered_view false s = NoTurn s
