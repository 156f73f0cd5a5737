use Rattle.std.proofs.Common.{ap, arith, ◌∙◌}
use Rattle.c_tree.specs.Declarations.{declarator_view}
use Rattle.c_type_bounds.specs.Weights.{declarator_weight}
use Rattle.c_type_bounds.specs.Counts.{capped}
use Rattle.c_type_bounds.proofs.Sums.{sum_whole}
use Rattle.c_type_bounds.proofs.weight.declarators_weight.Goals as goal

pub returns : goal.returns
returns c = c.loop-one.invariant ∙ ap capped (sum_whole declarator_weight declarator_view c.args.all.now c.loop-one.one-index (omega arith))
