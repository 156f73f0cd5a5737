use Rattle.std.proofs.Common.{ap, arith, sym, take, ◌∙◌}
use Rattle.std.specs.Prelude.{fold, map}
use Rattle.c_tree.specs.Expressions.{expression_view, suffix_view, suffixed}
use Rattle.c_type_bounds.specs.Weights.{is_name_expression, weight_of}
use Rattle.c_type_bounds.specs.Counts.{capped}
use Rattle.c_type_bounds.proofs.Names.{suffixed_name}
use Rattle.c_type_bounds.proofs.Sums.{sum_whole}
use Rattle.c_type_bounds.proofs.Weights.{arguments_weigh, suffix_more}
use Rattle.c_type_bounds.proofs.weight.+weight.Goals as goal

pub weight_of_all-returns : goal.weight_of_all-returns
weight_of_all-returns t c =
    c.loop-e.invariant ∙ ap capped (sum_whole weight_of expression_view c.args.all.now c.loop-e.e-index (omega arith) ∙ sym (arguments_weigh (map expression_view c.args.all.now)))

pub suffixes_weight-loop-suffix-preserved : goal.suffixes_weight-loop-suffix-preserved
suffixes_weight-loop-suffix-preserved t c = λ e operand name.
    let before = c.loop-suffix.invariant e operand name in
    let more = suffix_more e c.args.suffixes.now c.loop-suffix.suffix-index c.suffix-item.result c.suffix-item.is c.loop-suffix-test.true in
    let so_far = fold suffixed e (map suffix_view (take c.loop-suffix.suffix-index c.args.suffixes.now)) in (
      c.suffix_weight-total.ensures so_far before.0 before.1 ∙ ap (λ x. capped (weight_of x)) (sym more),
      sym (ap is_name_expression more ∙ suffixed_name so_far (suffix_view c.suffix-item.result)),
    )
