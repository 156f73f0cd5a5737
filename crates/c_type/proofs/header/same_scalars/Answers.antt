use Rattle.std.proofs.Common.{sym}
use Rattle.c_type.proofs.Headers.{apart}
use Rattle.c_type.proofs.header.same_scalars.Goals as goal

pub returns-then-one-other : goal.returns-then-one-other
returns-then-one-other c = sym (apart c.args.one.now c.args.other.now c.if-one-other.true)
