-- Events of the code, as contracts see them.
use Rattle.std.specs.Prelude.{◌≡◌, ◌++◌, [], ◌∷◌, map, List, Option, Some, IfSome}
use Rattle.c_meaning_steps.specs.declared.event.Shown as declared-shown
use Rattle.c_meaning_steps.specs.declared.event.Standing.{Standing}
use Rattle.c_meaning_steps.specs.declared.event.Stop as declared-stop
use Rattle.c_meaning_steps.specs.declared.event.Event as declared-event
use Rattle.c_meaning_steps.specs.declared.event.Event.TheVariants as event
use Rattle.c_meaning_steps.specs.States.{Shown, Event, Put, Exited, TooDeep, Stop}
use Rattle.c_meaning_steps.specs.Tallies.{standing}
use Rattle.c_meaning_values.specs.Views.{object_view}

abbrev pub shown_view : declared-shown.Shown → Shown
shown_view s = record { variable = s.variable; values = s.values.items }

abbrev pub stop_view : declared-stop.Stop → Event
stop_view s = Stop s.place s.depth s.frames.items (map shown_view s.shown.items) (map object_view s.memory.items)

abbrev pub event_view : declared-event.Event → Event
event_view (event.Put byte) = Put byte
event_view (event.Exited status) = Exited status
event_view event.TooDeep = TooDeep
event_view (event.Stop s) =
    Stop s.place s.depth s.frames.items (map shown_view s.shown.items) (map object_view s.memory.items)

-- Behind these events comes a stop, which stands there, and is the one that was made, if one was.
pub record IsNextStop (before after : List Event) (at : Standing) (made : Option declared-stop.Stop) : Type 0 where
  pub stop : Event
  pub adds : after ≡ before ++ stop ∷ []
  pub stands : standing stop ≡ Some at
  pub is_made : IfSome made (λ s. stop_view s ≡ stop)
