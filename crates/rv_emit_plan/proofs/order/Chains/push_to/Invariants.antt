use Rattle.rv_emit_plan.specs.Orders.{placing_view, Grows}
use Rattle.rv_emit_plan.proofs.order.Chains.push_to.Given as goal

abbrev pub invariant-loop : goal.invariant-loop
invariant-loop l = Grows (placing_view l.fn.placing) (placing_view l.placing)
