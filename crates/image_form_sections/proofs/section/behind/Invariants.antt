use Rattle.std.proofs.Common.{◌≡◌, take}
use Rattle.image_form_sections.specs.Order.{sections_end, order}
use Rattle.image_form_sections.proofs.section.behind.Given as goal

abbrev pub invariant-loop-section : goal.invariant-loop-section
invariant-loop-section g l = l.at ≡ sections_end (g.C.Counts.of_level l.counts) (g.C.Counts.count l.counts) (take l.section-index order)
