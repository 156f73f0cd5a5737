use Rattle.std.proofs.Common.{◌≡◌, ℕ, ◌+◌, drop, slice_index, unwrap_or}
use Rattle.image_form.specs.Views.{viewed}
use Rattle.image_form.specs.RulesOfPlaces.{word_address}
use Rattle.stop_engine_view.specs.Reading.{place_at, place_from}
use Rattle.stop_engine.proofs.stop_table.enter_places.Given as goal

abbrev pub invariant-loop-i : goal.invariant-loop-i
invariant-loop-i l =
    (w : ℕ) → unwrap_or (place_from (l.i + 1) (drop l.i (viewed l.image).places) (word_address w)) (slice_index l.table w)
    ≡ unwrap_or (place_at (viewed l.image) (word_address w)) (slice_index l.fn.table w)
