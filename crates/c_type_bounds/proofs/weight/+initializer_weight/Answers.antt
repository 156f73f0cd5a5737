use Rattle.std.proofs.Common.{ap, arith, sym, ◌∙◌}
use Rattle.std.specs.Prelude.{map}
use Rattle.c_tree.specs.Declarations.{initializer_view}
use Rattle.c_type_bounds.specs.Weights.{initializer_weight}
use Rattle.c_type_bounds.specs.Counts.{capped}
use Rattle.c_type_bounds.proofs.Sums.{sum_whole}
use Rattle.c_type_bounds.proofs.Weights.{initializers_weigh}
use Rattle.c_type_bounds.proofs.weight.+initializer_weight.Goals as goal

pub initializers_weight-returns : goal.initializers_weight-returns
initializers_weight-returns t c =
    c.loop-one.invariant ∙ ap capped (sum_whole initializer_weight initializer_view c.args.all.now c.loop-one.one-index (omega arith) ∙ sym (initializers_weigh (map initializer_view c.args.all.now)))
