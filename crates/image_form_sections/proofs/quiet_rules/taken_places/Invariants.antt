use Rattle.std.proofs.Common.{take}
use Rattle.image_form_sections.specs.Layouts.{rows_in}
use Rattle.image_form_sections.proofs.PairKeys.{AreTaken}
use Rattle.image_form_sections.proofs.quiet_rules.taken_places.Given as goal

abbrev pub invariant-loop-row : goal.invariant-loop-row
invariant-loop-row l = AreTaken l.keys.items (take l.row (rows_in l.layout.changes))
