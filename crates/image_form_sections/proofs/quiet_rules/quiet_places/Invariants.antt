use Rattle.std.proofs.Common.{take}
use Rattle.image_form_sections.specs.Layouts.{rows_in, sections_in}
use Rattle.image_form_sections.proofs.PairKeys.{AreQuiet}
use Rattle.image_form_sections.proofs.quiet_rules.quiet_places.Given as goal

abbrev pub invariant-loop-row : goal.invariant-loop-row
invariant-loop-row l = AreQuiet (sections_in l.layout) l.keys.items (take l.row (rows_in l.layout.assigned))
