use Rattle.std.proofs.Common.{◌+◌}
use Rattle.c_tree.specs.TypedExpressions.{arguments_view, lvalue_view, rvalue_view}
use Rattle.graph_build_names.proofs.Extents.{extent, extent_of_arguments, extent_of_place}
use Rattle.graph_build_names.proofs.inner.+inner.Given as goal

abbrev pub decreases-inner_blocks : goal.decreases-inner_blocks
decreases-inner_blocks l = extent (rvalue_view l.e.now)

abbrev pub decreases-of_two : goal.decreases-of_two
decreases-of_two l = extent (rvalue_view l.left.now) + extent (rvalue_view l.right.now) + 1

abbrev pub decreases-inner_blocks_within : goal.decreases-inner_blocks_within
decreases-inner_blocks_within l = extent_of_place (lvalue_view l.l.now)

abbrev pub decreases-inner_blocks_of : goal.decreases-inner_blocks_of
decreases-inner_blocks_of l = extent_of_arguments (arguments_view l.all.now)
