use Rattle.std.proofs.Common.{ap, subst, ◌∙◌, arith}
use Rattle.image_form_sections.specs.Breaches.{Gives}
use Rattle.image_form.specs.Form.{form}
use Rattle.image_form.specs.Reading.{read_of}
use Rattle.image_form.proofs.Complete.{image_read}
use Rattle.image_form.proofs.Got.{found_by}
use Rattle.image_form.proofs.reading.read.Goals as goal

pub returns-clause-found : goal.returns-clause-found
returns-clause-found c = found_by form c.args.bytes.now c.read_exactly.result (λ i. omega (arith, c.type_inv.bytes i)) c.read_exactly.ensures

pub returns-clause-all : goal.returns-clause-all
returns-clause-all c = λ f image e. subst (λ r. Gives form c.read_exactly.result r) (ap read_of e ∙ image_read f image) c.read_exactly.ensures
