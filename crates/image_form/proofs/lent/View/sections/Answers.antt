use Rattle.image_form.proofs.Got.{sections_told}
use Rattle.image_form.proofs.lent.View.sections.Goals as goal

pub returns : goal.returns
returns c = sections_told c.args.self.now
