use Rattle.std.proofs.Common.{◌≡◌, take}
use Rattle.std.specs.Prelude.{map}
use Rattle.image_form_sections.specs.Layouts.{rows_in}
use Rattle.image_form.proofs.records.take_records.Given as goal

abbrev pub invariant-loop-row : goal.invariant-loop-row
invariant-loop-row g l = l.records.items ≡ map g.R.Record.of_numbers (take l.row (rows_in l.table))
