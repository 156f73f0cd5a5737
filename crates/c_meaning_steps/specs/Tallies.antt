-- What is told of a list of events in short: how many stops and how many bytes are in it, and where its last stop
-- stands.
use Rattle.std.specs.Prelude.{ℕ, ◌+◌, ◌-◌, ◌^◌, min, List, [], ◌∷◌, Option, Some, None}
use Rattle.c_meaning_steps.specs.declared.event.Frame.{Frame}
use Rattle.c_meaning_steps.specs.declared.event.Standing.{Standing}
use Rattle.c_meaning_steps.specs.States.{Event, Put, Exited, TooDeep, Stop}

-- a count, or the greatest number of 64 bits where it is more
abbrev pub counted : ℕ → ℕ
counted n = min n (2 ^ 64 - 1)

-- 1 for a stop
abbrev pub stop_count : Event → ℕ
stop_count (Put byte) = 0
stop_count (Exited status) = 0
stop_count TooDeep = 0
stop_count (Stop place depth frames shown memory) = 1

-- 1 for a byte that is put out
abbrev pub byte_count : Event → ℕ
byte_count (Put byte) = 1
byte_count (Exited status) = 0
byte_count TooDeep = 0
byte_count (Stop place depth frames shown memory) = 0

-- how many stops there are
abbrev pub stops_in : List Event → ℕ
stops_in [] = 0
stops_in (e ∷ events) = stop_count e + stops_in events

-- how many bytes are put out
abbrev pub bytes_in : List Event → ℕ
bytes_in [] = 0
bytes_in (e ∷ events) = byte_count e + bytes_in events

-- the function of the innermost activation
abbrev pub innermost : List Frame → ℕ
innermost [] = 0
innermost (frame ∷ frames) = frame.function

-- where an event stands, if it is a stop
abbrev pub standing : Event → Option Standing
standing (Put byte) = None
standing (Exited status) = None
standing TooDeep = None
standing (Stop place depth frames shown memory) =
    Some (record { place = place; depth = depth; function = innermost frames })

-- the later of two, if there is one
abbrev pub later : (before after : Option Standing) → Option Standing
later before None = before
later before (Some s) = Some s

-- where the last stop stands, if there is one
abbrev pub last_stop : List Event → Option Standing
last_stop [] = None
last_stop (e ∷ events) = later (standing e) (last_stop events)
