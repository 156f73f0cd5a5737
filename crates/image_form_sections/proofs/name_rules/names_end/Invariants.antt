use Rattle.std.proofs.Common.{◌≡◌, ◌≤◌, None, take, length}
use Rattle.image_form_sections.specs.Layouts.{rows_in}
use Rattle.image_form_sections.specs.TestsOfNames.{table_tests, first_unfit}
use Rattle.image_form_sections.proofs.name_rules.names_end.Given as goal

abbrev pub invariant-loop-row : goal.invariant-loop-row
invariant-loop-row l = record {
  fit : first_unfit (table_tests l.kind (take l.row (rows_in l.table))) l.bytes ≡ None;
  end : l.end ≡ length (table_tests l.kind (take l.row (rows_in l.table)));
  inside : l.end ≤ length l.bytes;
}
