use Rattle.std.proofs.Common.{ap, arith, ◌∙◌}
use Rattle.c_tree.specs.Trees.{item_view}
use Rattle.c_type_bounds.specs.Weights.{item_weight}
use Rattle.c_type_bounds.specs.Counts.{capped}
use Rattle.c_type_bounds.proofs.Sums.{sum_whole}
use Rattle.c_type_bounds.proofs.weight_of_statement.tree_weight.Goals as goal

pub returns : goal.returns
returns c = c.loop-item.invariant ∙ ap capped (sum_whole item_weight item_view c.args.tree.now.items.items c.loop-item.item-index (omega arith))
