use Rattle.std.proofs.Common.{◌≡◌}
use Rattle.std.specs.List.{slice_range}
use Rattle.image_form.specs.Views.{viewed}
use Rattle.stop_engine_view.specs.Rows.{rows_at}
use Rattle.session_lines.specs.Summary.{counted_all}
use Rattle.session_lines.proofs.summary.count_all.Given as goal

abbrev pub invariant-loop-number : goal.invariant-loop-number
invariant-loop-number l =
    counted_all (slice_range (viewed l.image).rows l.number l.number-end) l.more ≡ counted_all (rows_at l.place (viewed l.image).rows) l.fn.counts
