use Rattle.std.proofs.Common.{◌∙◌}
use Rattle.rv_emit_plan.specs.Orders.{placing_view, Grows}
use Rattle.rv_emit_plan.proofs.Growing.{grows_on, order_of_placed}
use Rattle.rv_emit_plan.proofs.order.order_of.Goals as goal

pub returns : goal.returns
returns c =
    let chains : Grows (placing_view c.in_ok-placing.placing) (placing_view c.push_to-2.new.placing) = grows_on _ (placing_view c.push_to.new.placing) _ c.in_ok-push_to.ensures (grows_on _ (placing_view c.push_all.new.placing) _ c.in_ok-push_all.ensures c.in_ok-push_to-2.ensures) in
    let all : Grows (placing_view c.in_ok-placing.placing) (placing_view c.place_rest.new.self) = grows_on _ _ _ chains c.in_ok-place_rest.ensures.grown in
    order_of_placed (placing_view c.place_rest.new.self) c.args.flow.now.blocks (all.placed c.in_ok-placing.ensures.placed) (all.count ∙ c.in_ok-placing.ensures.count) c.in_ok-place_rest.ensures.all
