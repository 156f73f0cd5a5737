use Rattle.std.proofs.Common.{map, sym, subst}
use Rattle.graph_core.specs.Graphs.{block_view}
use Rattle.copy_pass_rule.specs.Order.{IsInOrder}
use Rattle.copy_pass_rule.proofs.finding.find_copies.Goals as goal

pub find_along-requires-clause-in_order : goal.find_along-requires-clause-in_order
find_along-requires-clause-in_order c =
    subst (λ xs. IsInOrder (map block_view c.args.graph.now.blocks.items) xs) (sym c.deref-2.ensures.value)
    (subst (λ xs. IsInOrder (map block_view xs) c.in_ok-order.order.items) c.deref.ensures.value c.in_ok-order.ensures)
