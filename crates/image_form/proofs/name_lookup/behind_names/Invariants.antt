use Rattle.std.proofs.Common.{◌≡◌, drop, take}
use Rattle.std.specs.Prelude.{map, sum}
use Rattle.image_form.specs.Decoding.{only_number}
use Rattle.image_form_sections.specs.Layouts.{rows_in}
use Rattle.image_form.proofs.name_lookup.behind_names.Given as goal

abbrev pub invariant-loop-row : goal.invariant-loop-row
invariant-loop-row l = l.rest ≡ drop (sum (take l.row (map only_number (rows_in l.table)))) l.bytes
