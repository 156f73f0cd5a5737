use Rattle.std.proofs.Common.{◌+◌}
use Rattle.c_tree.specs.TypedExpressions.{arguments_view, lvalue_view, rvalue_view}
use Rattle.graph_build_names.proofs.Extents.{extent, extent_of_arguments, extent_of_place}
use Rattle.graph_build_code.proofs.expression.+code.Given as goal

abbrev pub decreases-code : goal.decreases-code
decreases-code l = extent (rvalue_view l.e.now)

abbrev pub decreases-code_two : goal.decreases-code_two
decreases-code_two l = extent (rvalue_view l.first.now) + extent (rvalue_view l.second.now) + 3

abbrev pub decreases-code_two_known : goal.decreases-code_two_known
decreases-code_two_known l = extent (rvalue_view l.first.now) + extent (rvalue_view l.second.now) + 2

abbrev pub decreases-code_known : goal.decreases-code_known
decreases-code_known l = extent (rvalue_view l.e.now) + 1

abbrev pub decreases-code_place : goal.decreases-code_place
decreases-code_place l = extent_of_place (lvalue_view l.l.now)

abbrev pub decreases-code_address : goal.decreases-code_address
decreases-code_address l = extent_of_place (lvalue_view l.l.now)

abbrev pub decreases-code_load : goal.decreases-code_load
decreases-code_load l = extent_of_place (lvalue_view l.from.now) + 1

abbrev pub decreases-code_converted : goal.decreases-code_converted
decreases-code_converted l = extent (rvalue_view l.operand.now) + 1

abbrev pub decreases-code_signed : goal.decreases-code_signed
decreases-code_signed l = extent (rvalue_view l.operand.now) + 1

abbrev pub decreases-code_not : goal.decreases-code_not
decreases-code_not l = extent (rvalue_view l.operand.now) + 1

abbrev pub decreases-code_both : goal.decreases-code_both
decreases-code_both l = extent (rvalue_view l.left.now) + extent (rvalue_view l.right.now) + 3

abbrev pub decreases-code_both_known : goal.decreases-code_both_known
decreases-code_both_known l = extent (rvalue_view l.left.now) + extent (rvalue_view l.right.now) + 2

abbrev pub decreases-code_conditional : goal.decreases-code_conditional
decreases-code_conditional l = extent (rvalue_view l.condition.now) + extent (rvalue_view l.chosen.now) + extent (rvalue_view l.otherwise.now) + 1

abbrev pub decreases-code_assigned : goal.decreases-code_assigned
decreases-code_assigned l = extent_of_place (lvalue_view l.l.now) + extent (rvalue_view l.value.now) + 1

abbrev pub decreases-code_updated : goal.decreases-code_updated
decreases-code_updated l = extent_of_place (lvalue_view l.l.now) + extent (rvalue_view l.value.now) + 1

abbrev pub decreases-code_stepped : goal.decreases-code_stepped
decreases-code_stepped l = extent_of_place (lvalue_view l.l.now) + 1

abbrev pub decreases-code_called : goal.decreases-code_called
decreases-code_called l = extent_of_arguments (arguments_view l.arguments.now) + 1

abbrev pub decreases-code_all : goal.decreases-code_all
decreases-code_all l = extent_of_arguments (arguments_view l.all.now)

abbrev pub decreases-code_comma : goal.decreases-code_comma
decreases-code_comma l = extent (rvalue_view l.left.now) + extent (rvalue_view l.right.now) + 3

abbrev pub decreases-code_comma_known : goal.decreases-code_comma_known
decreases-code_comma_known l = extent (rvalue_view l.left.now) + extent (rvalue_view l.right.now) + 2
