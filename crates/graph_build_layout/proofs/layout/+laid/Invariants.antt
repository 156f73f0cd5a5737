use Rattle.std.proofs.Common.{◌+◌}
use Rattle.c_tree.specs.TypedExpressions.{arguments_view, lvalue_view, rvalue_view}
use Rattle.graph_build_names.proofs.Extents.{extent, extent_of_arguments, extent_of_place}
use Rattle.graph_build_layout.proofs.layout.+laid.Given as goal

abbrev pub decreases-value_laid : goal.decreases-value_laid
decreases-value_laid l = extent (rvalue_view l.e.now)

abbrev pub decreases-pair_behind : goal.decreases-pair_behind
decreases-pair_behind l = extent (rvalue_view l.b.now) + 1

abbrev pub decreases-pair_laid : goal.decreases-pair_laid
decreases-pair_laid l = extent (rvalue_view l.a.now) + extent (rvalue_view l.b.now) + 2

abbrev pub decreases-element_laid : goal.decreases-element_laid
decreases-element_laid l = extent (rvalue_view l.first.now) + extent (rvalue_view l.second.now) + 3

abbrev pub decreases-place_laid : goal.decreases-place_laid
decreases-place_laid l = extent_of_place (lvalue_view l.l.now) + 1

abbrev pub decreases-address_laid : goal.decreases-address_laid
decreases-address_laid l = extent_of_place (lvalue_view l.l.now)

abbrev pub decreases-arguments_laid : goal.decreases-arguments_laid
decreases-arguments_laid l = extent_of_arguments (arguments_view l.all.now)

abbrev pub decreases-both_laid : goal.decreases-both_laid
decreases-both_laid l = extent (rvalue_view l.a.now) + extent (rvalue_view l.b.now) + 1

abbrev pub decreases-arms_laid : goal.decreases-arms_laid
decreases-arms_laid l = extent (rvalue_view l.condition.now) + extent (rvalue_view l.chosen.now) + extent (rvalue_view l.other.now) + 1

abbrev pub decreases-conditional_laid : goal.decreases-conditional_laid
decreases-conditional_laid l = extent (rvalue_view l.condition.now) + extent (rvalue_view l.chosen.now) + extent (rvalue_view l.other.now) + 2

abbrev pub decreases-assigned_laid : goal.decreases-assigned_laid
decreases-assigned_laid l = extent_of_place (lvalue_view l.target.now) + extent (rvalue_view l.value.now) + 2

abbrev pub decreases-updated_laid : goal.decreases-updated_laid
decreases-updated_laid l = extent_of_place (lvalue_view l.target.now) + extent (rvalue_view l.value.now) + 2

abbrev pub decreases-step_laid : goal.decreases-step_laid
decreases-step_laid l = extent_of_place (lvalue_view l.target.now) + 2

abbrev pub decreases-loaded_laid : goal.decreases-loaded_laid
decreases-loaded_laid l = extent_of_place (lvalue_view l.from.now) + 2

abbrev pub decreases-one_laid : goal.decreases-one_laid
decreases-one_laid l = extent (rvalue_view l.operand.now) + 1

abbrev pub decreases-conversion_laid : goal.decreases-conversion_laid
decreases-conversion_laid l = extent (rvalue_view l.operand.now) + 1

abbrev pub decreases-arithmetic_laid : goal.decreases-arithmetic_laid
decreases-arithmetic_laid l = extent (rvalue_view l.left.now) + extent (rvalue_view l.right.now) + 3

abbrev pub decreases-difference_laid : goal.decreases-difference_laid
decreases-difference_laid l = extent (rvalue_view l.left.now) + extent (rvalue_view l.right.now) + 3
