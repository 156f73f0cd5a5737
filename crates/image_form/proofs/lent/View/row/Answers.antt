use Rattle.image_form.specs.Views.{viewed}
use Rattle.image_form.proofs.Raw.{row_raw}
use Rattle.image_form.proofs.lent.View.row.Goals as goal

pub returns : goal.returns
returns c = rw (c.number.ensures, c.number-2.ensures, c.number-3.ensures, c.number-4.ensures, c.number-5.ensures, c.number-6.ensures, c.number-7.ensures) (row_raw (viewed c.args.self.now) c.sections.result.now c.sections.ensures c.args.n c.requires)
