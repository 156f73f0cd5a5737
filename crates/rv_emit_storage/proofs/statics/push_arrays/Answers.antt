use Rattle.std.proofs.Common.{arith}
use Rattle.rv_emit_storage.proofs.Padding.{all_bytes}
use Rattle.rv_emit_storage.proofs.statics.push_arrays.Goals as goal

pub returns-clause-bytes : goal.returns-clause-bytes
returns-clause-bytes c = all_bytes c.loop-left.made.items (λ i d lt. omega (arith, c.type_inv.made i d lt))
