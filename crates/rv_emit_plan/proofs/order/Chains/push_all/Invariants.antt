use Rattle.rv_emit_plan.specs.Orders.{placing_view, Grows}
use Rattle.rv_emit_plan.proofs.order.Chains.push_all.Given as goal

abbrev pub invariant-loop-block : goal.invariant-loop-block
invariant-loop-block l = Grows (placing_view l.fn.placing) (placing_view l.placing)
