use Rattle.std.proofs.Common.{ap, arith, ◌∙◌}
use Rattle.c_tree.specs.Statements.{label_view}
use Rattle.c_type_bounds.specs.Weights.{label_weight}
use Rattle.c_type_bounds.specs.Counts.{capped}
use Rattle.c_type_bounds.proofs.Sums.{sum_whole}
use Rattle.c_type_bounds.proofs.weight_of_statement.labels_weight.Goals as goal

pub returns : goal.returns
returns c = c.loop-one.invariant ∙ ap capped (sum_whole label_weight label_view c.args.all.now c.loop-one.one-index (omega arith))
