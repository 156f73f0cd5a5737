use Rattle.std.proofs.Common.{◌+◌}
use Rattle.c_tree.specs.TypedExpressions.{rvalue_view}
use Rattle.graph_build_names.proofs.Extents.{extent}
use Rattle.graph_build_layout.proofs.chains.+lefts.Given as goal

abbrev pub decreases-lefts_laid : goal.decreases-lefts_laid
decreases-lefts_laid l = extent (rvalue_view l.e.now)

abbrev pub decreases-left_laid : goal.decreases-left_laid
decreases-left_laid l = extent (rvalue_view l.left.now) + 1

abbrev pub decreases-pair_lefts_laid : goal.decreases-pair_lefts_laid
decreases-pair_lefts_laid l = extent (rvalue_view l.left.now) + 2

abbrev pub decreases-both_lefts_laid : goal.decreases-both_lefts_laid
decreases-both_lefts_laid l = extent (rvalue_view l.left.now) + 2

abbrev pub decreases-comma_lefts_laid : goal.decreases-comma_lefts_laid
decreases-comma_lefts_laid l = extent (rvalue_view l.left.now) + 2

abbrev pub decreases-arithmetic_lefts_laid : goal.decreases-arithmetic_lefts_laid
decreases-arithmetic_lefts_laid l = extent (rvalue_view l.left.now) + 3

abbrev pub decreases-moved_lefts_laid : goal.decreases-moved_lefts_laid
decreases-moved_lefts_laid l = extent (rvalue_view l.pointer.now) + 3
