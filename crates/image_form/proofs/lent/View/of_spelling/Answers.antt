use Rattle.std.proofs.Common.{sym, ap, subst, ◌∙◌, arith}
use Rattle.std.specs.Prelude.{Ok}
use Rattle.image_form.specs.Decoding.{form_of_sections}
use Rattle.image_form.specs.Rules.{IsImage}
use Rattle.image_form.specs.Spelling.{spelling}
use Rattle.image_form.proofs.Got.{are_bytes_so, read_spelled, told_spelled, form_spelled}
use Rattle.image_form.proofs.lent.View.of_spelling.Goals as goal

pub layout_of-requires : goal.layout_of-requires
layout_of-requires c = let given = c.requires.spelled in told_spelled c.args.bytes.now given.0 given.1 given.2

pub invariant_of-result : goal.invariant_of-result
invariant_of-result c =
    let given = c.requires.spelled in
    let same = sym (form_spelled c.args.bytes.now given.0 given.1 given.2) ∙ ap form_of_sections (sym c.layout_of.ensures.sections) in
    record {
      read = read_spelled c.args.bytes.now given.0 given.1 given.2 ∙ ap Ok same;
      sections = c.layout_of.ensures.sections;
      fit = are_bytes_so c.args.bytes.now (λ i. omega (arith, c.type_inv.bytes i));
    }

pub returns-clause-image : goal.returns-clause-image
returns-clause-image c =
    let given = c.requires.spelled in
    let same = sym (form_spelled c.args.bytes.now given.0 given.1 given.2) ∙ ap form_of_sections (sym c.layout_of.ensures.sections) in
    subst IsImage same given.1

pub returns-clause-bytes : goal.returns-clause-bytes
returns-clause-bytes c =
    let given = c.requires.spelled in
    let same = sym (form_spelled c.args.bytes.now given.0 given.1 given.2) ∙ ap form_of_sections (sym c.layout_of.ensures.sections) in
    given.2 ∙ ap spelling same
