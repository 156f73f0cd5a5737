-- The addresses of places.
use Rattle.std.specs.Prelude.{ℕ, ◌+◌, get_or, if◌then◌else◌, List, [], ◌∷◌, length, map, replicate, slice_set}
use Rattle.places.specs.declared.table.PlaceRow.{PlaceRow}
use Rattle.rv_emit_tables.specs.declared.emitted.PlacedStop.{PlacedStop}
use Rattle.rv_emit_tables.specs.Emitted.{FunctionCode}
use Rattle.image_form.specs.declared.tables.Place.{Place}

-- the address of a place of an image
abbrev pub address : Place → ℕ
address p = p.address

-- a table of addresses, by the numbers of places, in which the address of each of these stops is put
abbrev pub put_stops : List PlacedStop → List ℕ → List ℕ
put_stops [] table = table
put_stops (s ∷ more) table = put_stops more (slice_set table s.place s.address)

-- the addresses of the stops of so many places, by number; 0 for a place that is none
abbrev pub stop_addresses : List PlacedStop → (count : ℕ) → List ℕ
stop_addresses stops count = put_stops stops (replicate count 0)

-- the addresses of places, of which the first has this number: an entry's is where its function's code begins,
-- another's is its stop's
abbrev pub addresses_from : (number : ℕ) → (firsts stops : List ℕ) → List PlaceRow → List ℕ
addresses_from number firsts stops [] = []
addresses_from number firsts stops (r ∷ more) =
    (if r.is_entry then get_or firsts r.function 0 else get_or stops number 0)
    ∷ addresses_from (number + 1) firsts stops more

-- THE ADDRESSES OF THE PLACES of a program with this code of its functions and these stops.
abbrev pub addresses_of : List FunctionCode → List PlacedStop → List PlaceRow → List ℕ
addresses_of codes stops rows =
    addresses_from 1 (map (λ (c : FunctionCode). c.first) codes) (stop_addresses stops (length rows + 1)) rows
