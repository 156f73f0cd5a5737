use Rattle.std.proofs.Common.{◌≡◌, List, map, sym, subst}
use Rattle.std.specs.List.{Contains}
use Rattle.places.specs.declared.flow.FlowStep.{FlowStep}
use Rattle.c_flow.specs.Tables.{step_between}
use Rattle.c_flow.proofs.InOrder.{steps_in_order}
use Rattle.c_flow.proofs.step_table.steps_of.Goals as goal

pub returns-clause-ordered : goal.returns-clause-ordered
returns-clause-ordered c = steps_in_order _ c.put_in_order.ensures.ordered

pub returns-clause-exact : goal.returns-clause-exact
returns-clause-exact c =
    let same : c.in_ok-steps.steps.items ≡ map (step_between c.args.positions.now) c.args.edges.now = c.in_ok-steps.ensures in
    λ s. (λ h. subst (λ (xs : List FlowStep). Contains xs s) same (c.put_in_order.ensures.none_added s h), λ h. c.put_in_order.ensures.kept s (subst (λ (xs : List FlowStep). Contains xs s) (sym same) h))
