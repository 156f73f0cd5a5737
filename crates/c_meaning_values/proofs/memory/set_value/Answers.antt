use Rattle.std.proofs.Common.{arith}
use Rattle.c_meaning_values.specs.Memory.{with_value}
use Rattle.c_meaning_values.proofs.ByNumber.{changes_one}
use Rattle.c_meaning_values.proofs.memory.set_value.Goals as goal

pub returns-then-object-len : goal.returns-then-object-len
returns-then-object-len c =
    changes_one (λ o. with_value o c.args.index c.args.value) c.args.memory.now.items c.args.object c.index_mut.result.now c.set.new.self (omega (arith, c.if-object-len.true, c.len)) c.index_mut.ensures.value c.set.ensures
