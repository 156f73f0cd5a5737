use Rattle.std.proofs.Common.{refl}
use Rattle.debug_records.specs.Change.{letters}
use Rattle.pass_law.proofs.Found.{contrary, not_both}
use Rattle.pass_law.proofs.list.is_handed_in.Goals as goal

pub returns-in-None : goal.returns-in-None
returns-in-None g c = (λ met. absurd (not_both met refl), λ some. absurd (contrary (λ p. (goal.Pass-dyn g (p.vtable, p.value)).named p.value) c.args.passes.now (letters c.args.name.now) c.in-None.ensures.found some))
