use Rattle.std.proofs.Common.{◌≡◌, ℕ, drop, if◌then◌else◌, slice_index}
use Rattle.image_form.specs.Views.{viewed}
use Rattle.image_form.specs.RulesOfPlaces.{word_address}
use Rattle.stop_engine.specs.StopTable.{is_entry_address}
use Rattle.stop_engine.proofs.StopTables.{is_entry_of}
use Rattle.stop_engine.proofs.stop_table.strike_entries.Given as goal

abbrev pub invariant-loop-i : goal.invariant-loop-i
invariant-loop-i l =
    (w : ℕ) → (if is_entry_of (viewed l.image) (drop l.i (viewed l.image).functions) (word_address w) then 0 else slice_index l.table w)
    ≡ (if is_entry_address (viewed l.image) (word_address w) then 0 else slice_index l.fn.table w)
