-- What places are marked with.
use Rattle.std.specs.Prelude.{ℕ, Option, length, slice_get}
use Rattle.currency_writers.specs.declared.marks.Marks as declared-marks
use Rattle.currency_writers.specs.Entries.{said_in}

-- what a place is marked with, if it is
abbrev pub mark_at : {T : Type 0} → declared-marks.Marks T → (p : ℕ) → Option T
mark_at m p = said_in m.round (slice_get m.entries.items p)

-- how many places may be marked: those below this number
abbrev pub room_of : {T : Type 0} → declared-marks.Marks T → ℕ
room_of m = length m.entries.items
