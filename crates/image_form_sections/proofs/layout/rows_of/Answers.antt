use Rattle.std.proofs.Common.{arith, length-drop}
use Rattle.image_form_sections.specs.Order.{section_start}
use Rattle.image_form_sections.specs.Sections.{count_told, version_told}
use Rattle.image_form_sections.proofs.Inside.{told_long, told_few, told_inside}
use Rattle.image_form_sections.proofs.SectionLaws.{numbers_inside}
use Rattle.image_form_sections.proofs.layout.rows_of.Goals as goal

pub invariant_of-header : goal.invariant_of-header
invariant_of-header c = record { long = told_long c.args.bytes.now c.requires }

pub new-requires-clause-few : goal.new-requires-clause-few
new-requires-clause-few c = omega (arith, c.count.ensures, told_few c.args.bytes.now c.args.section (λ i. omega (arith, c.type_inv.bytes i)))

pub new-requires-clause-inside : goal.new-requires-clause-inside
new-requires-clause-inside c =
    let bytes = c.args.bytes.now in
    let section = c.args.section in
    let level = (version_told bytes).level in
    let left = length-drop (section_start level (count_told bytes) section) bytes in
    rw (c.record_size-width.ensures.size, c.level.ensures, c.count.ensures, c.bytes_from.ensures) (omega (arith, left, numbers_inside level section (count_told bytes section), told_inside bytes section c.requires))
