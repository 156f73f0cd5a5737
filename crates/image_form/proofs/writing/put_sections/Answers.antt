use Rattle.std.proofs.Common.{arith}
use Rattle.image_form.specs.Form.{form}
use Rattle.image_form_sections.specs.declared.section.Section.TheVariants.{Code}
use Rattle.image_form.proofs.Gathered.{section_written}
use Rattle.image_form.proofs.writing.put_sections.Goals as goal

pub loop-section-preserved : goal.loop-section-preserved
loop-section-preserved c =
    section_written (form c.args.image.now) c.loop-section.section-index Code _ _ _ (omega (arith, c.loop-section-test.true)) c.loop-section.invariant c.in_ok-put_section.ensures
