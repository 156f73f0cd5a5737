use Rattle.std.proofs.Common.{arith}
use Rattle.image_form.proofs.SpelledRows.{all_bytes}
use Rattle.session.proofs.playing.play.Goals as goal

pub returns-clause-bytes : goal.returns-clause-bytes
returns-clause-bytes g c = all_bytes c.args.input.now (λ i. omega (arith, c.type_inv.input i))
