use Rattle.std.proofs.Common.{ap, arith, ◌∙◌}
use Rattle.c_tree.specs.Declarations.{parameter_view}
use Rattle.c_type_bounds.specs.Weights.{parameter_weight}
use Rattle.c_type_bounds.specs.Counts.{capped}
use Rattle.c_type_bounds.proofs.Sums.{sum_whole}
use Rattle.c_type_bounds.proofs.weight_of_statement.parameters_weight.Goals as goal

pub returns : goal.returns
returns c = c.loop-one.invariant ∙ ap capped (sum_whole parameter_weight parameter_view c.args.all.now c.loop-one.one-index (omega arith))
