use Rattle.std.proofs.Common.{arith, refl}
use Rattle.c_meaning_values.specs.declared.value.Phase.TheVariants.{Live}
use Rattle.c_meaning_values.specs.Memory.{in_phase}
use Rattle.c_meaning_values.proofs.ByNumber.{changes_one}
use Rattle.c_meaning_values.proofs.memory.begin.Goals as goal

pub returns-then-object-len : goal.returns-then-object-len
returns-then-object-len c = changes_one (in_phase Live) c.args.memory.now.items c.args.object c.index_mut.result.now _ (omega (arith, c.if-object-len.true, c.len)) c.index_mut.ensures.value refl
