-- Homes of names as a list has them, and frames whose offsets are words.
use Rattle.std.specs.Prelude.{ℕ, ◌+◌, ◌<◌, List, length, slice_get}
use Rattle.std.specs.Option.{option_map_or}
use Rattle.graph_homes.specs.declared.home.Home.{Home}
use Rattle.graph_homes.specs.declared.home.Home.TheVariants.{Slot}
use Rattle.graph_core.specs.Graphs.{Graph}
use Rattle.graph_core.specs.Validity.{taken_by_object, total}
use Rattle.graph_homes.specs.Frames.{saved, slot_count, objects_start}

-- the home of a name, where the names have these homes
abbrev pub home_in : List Home → ℕ → Home
home_in homes x = option_map_or (λ home. home) (slice_get homes x) (Slot 0)

-- the registers that a function saves, whose names have these homes
abbrev pub saved_in : List Home → Graph → List ℕ
saved_in homes g = saved (home_in homes) g

-- All offsets of the frame are words. So it is in a valid unit.
abbrev pub FitsFrame : List Home → Graph → Type 0
FitsFrame homes g =
    objects_start (length (saved_in homes g)) (slot_count homes) + total taken_by_object g.objects + 15 < 4294967296
