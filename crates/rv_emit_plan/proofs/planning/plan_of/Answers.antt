use Rattle.std.proofs.Common.{sym, subst}
use Rattle.rv_emit_plan.specs.Plans.{AreChosen}
use Rattle.rv_emit_plan.proofs.Holding.{constants_at}
use Rattle.rv_emit_plan.proofs.planning.plan_of.Goals as goal

pub returns-clause-held : goal.returns-clause-held
returns-clause-held c = record {
  constants = λ n. constants_at (λ held. held.items) _ n (c.in_ok-held_of_all.ensures.constants (subst AreChosen (sym c.deref-3.ensures.value) c.in_ok-holdings.ensures));
  start = c.in_ok-held_of_all.ensures.start;
}
