use Rattle.std.proofs.Common.{arith}
use Rattle.image_form_sections.proofs.Inside.{told_small}
use Rattle.image_form_sections.proofs.header.size_told.Goals as goal

pub size-requires : goal.size-requires
size-requires c = record { small = told_small c.args.bytes.now (λ i. omega (arith, c.type_inv.bytes i)) }
