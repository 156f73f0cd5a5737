-- The run of an image: of the image it reads where the regions of memory lie, the code, the initial bytes and the
-- addresses of the stop places, and nothing else.
use Rattle.std.specs.Prelude.{ℕ, ◌+◌, ◌==◌, Bool, List, [], ◌∷◌, if◌then◌else◌}
use Rattle.std.specs.List.{list_any}
use Rattle.image_form.specs.Form.{Form}
use Rattle.image_form.specs.declared.tables.Function.{Function}
use Rattle.image_form.specs.declared.tables.Place.{Place}
use Rattle.rv_machine.specs.Table.{started}
use Rattle.rv_machine.specs.Run.{MachineEvent, machine_run}

-- a place is the entry of a function, at which no run stops
abbrev pub is_entry : List Function → ℕ → Bool
is_entry functions place = list_any (λ (f : Function). f.entry == place) functions

-- the addresses of the places that are no entries; the first of the list has this number
abbrev pub stops_from : List Function → ℕ → List Place → List ℕ
stops_from functions number [] = []
stops_from functions number (p ∷ places) =
    if is_entry functions number then stops_from functions (number + 1) places
    else p.address ∷ stops_from functions (number + 1) places

-- the addresses of the stop places; places are numbered from 1
abbrev pub stop_addresses : Form → List ℕ
stop_addresses m = stops_from m.functions 1 m.places

-- the events of at most so many instructions of the image on an input, from the start
abbrev pub image_run : Form → List ℕ → ℕ → List MachineEvent
image_run m input limit = machine_run (stop_addresses m) limit (started m.version.map m.code m.initial input)
