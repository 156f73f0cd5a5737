use Rattle.std.proofs.Common.{arith}
use Rattle.image_form.proofs.Got.{are_bytes_so}
use Rattle.image_form.proofs.lent.View.new.Goals as goal

pub invariant_of-result-clause-fit : goal.invariant_of-result-clause-fit
invariant_of-result-clause-fit c = are_bytes_so c.args.bytes.now (λ i. omega (arith, c.type_inv.bytes i))
