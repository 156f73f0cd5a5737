use Rattle.std.proofs.Common.{map, string_bytes}
use Rattle.session.proofs.AskedLemmas.{answered, no_job}
use Rattle.session.proofs.asking.asked.Goals as goal

pub returns-in-Some : goal.returns-in-Some
returns-in-Some g c = answered (λ p. (goal.Pass-dyn g (p.vtable, p.value)).named p.value) c.args.passes.now (map string_bytes c.args.words.now) c.in-Ok.found c.in-Some.job c.checked.result c.in-Ok.ensures.job c.in-Some.is c.checked.ensures

pub returns-in-None : goal.returns-in-None
returns-in-None g c = no_job (λ p. (goal.Pass-dyn g (p.vtable, p.value)).named p.value) c.args.passes.now (map string_bytes c.args.words.now) c.in-Ok.found c.in-Ok.ensures.none c.in-None.is
