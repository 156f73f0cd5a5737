use Rattle.std.proofs.Common.{arith}
use Rattle.image_form.specs.Form.{form}
use Rattle.image_form.proofs.Counts.{few_records}
use Rattle.image_form.proofs.writing.counted.Goals as goal

pub overflow_cast-result : goal.overflow_cast-result
overflow_cast-result c = omega (arith, few_records (form c.args.image.now) c.requires c.args.section, c.count.ensures)
