use Rattle.std.proofs.Common.{◌≡◌}
use Rattle.std.specs.List.{slice_range}
use Rattle.image_form.specs.Views.{viewed}
use Rattle.stop_engine_texts.specs.Shown.{first_row_of}
use Rattle.stop_engine_texts.proofs.visible.visible_row.Given as goal

abbrev pub invariant-loop-number : goal.invariant-loop-number
invariant-loop-number l =
    first_row_of (viewed l.image) l.place l.name (slice_range (viewed l.image).rows l.number l.end) ≡ first_row_of (viewed l.image) l.place l.name (viewed l.image).rows
