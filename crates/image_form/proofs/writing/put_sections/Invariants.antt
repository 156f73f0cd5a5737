use Rattle.std.proofs.Common.{◌≡◌, ◌++◌, take}
use Rattle.std.specs.List.{flat_map}
use Rattle.image_form.specs.Form.{form}
use Rattle.image_form.specs.Spelling.{section_bytes}
use Rattle.image_form_sections.specs.Order.{order}
use Rattle.image_form.proofs.writing.put_sections.Given as goal

abbrev pub invariant-loop-section : goal.invariant-loop-section
invariant-loop-section l = l.out.items ≡ l.initial.out.items ++ flat_map (section_bytes (form l.image)) (take l.section-index order)
