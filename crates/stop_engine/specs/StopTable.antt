-- A table that tells the stop places of an image by code word.
use Rattle.std.specs.Prelude.{◌≡◌, ◌≢◌, ℕ, ◌-◌, ◌/◌, ◌%◌, ◌==◌, nat_le, ◌&&◌, Bool, true, false, if◌then◌else◌, Some, List, slice_index}
use Rattle.std.specs.List.{list_any}
use Rattle.std.specs.Option.{option_map_or}
use Rattle.image_form.specs.Form.{Form, numbered}
use Rattle.image_form.specs.declared.tables.Function.{Function}
use Rattle.image_form.specs.declared.tables.Place.{Place}
use Rattle.memory_map.specs.Maps.{code_start}
use Rattle.rv_machine.specs.Run.{is_stop}
use Rattle.stop_engine_view.specs.Run.{stop_addresses}
use Rattle.stop_engine_view.specs.Reading.{place_at}

-- what a table with an entry for each code word has at an address, and 0 where no word begins there
abbrev pub entry_at : List ℕ → ℕ → ℕ
entry_at table a = if a % 4 == 0 && nat_le code_start a then slice_index table ((a - code_start) / 4) else 0

-- a function's entry is at this address
abbrev pub is_entry_address : Form → ℕ → Bool
is_entry_address m a =
    list_any (λ (f : Function). option_map_or (λ (p : Place). p.address == a) (numbered m.places f.entry) false)
    m.functions

-- At each address the table has the number of the stop place there, or 0 where no stop place begins.
pub record TellsStops (m : Form) (table : List ℕ) : Type 0 where
  pub none : (a : ℕ) → entry_at table a ≡ 0 → is_stop (stop_addresses m) a ≡ false
  pub some : (a : ℕ) → entry_at table a ≢ 0
      → (is_stop (stop_addresses m) a ≡ true) × (place_at m a ≡ Some (entry_at table a))
