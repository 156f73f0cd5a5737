use Rattle.std.proofs.Common.{◌≡◌, vec_len}
use Rattle.std.specs.Prelude.{map}
use Rattle.c_tree.specs.TypedExpressions.{arguments_view}
use Rattle.c_type_values.specs.Values.{node_view}
use Rattle.c_type_expressions.specs.Judgements.{argument_chain, behind}
use Rattle.c_type_expressions.proofs.call.argument_list.Given as goal

abbrev pub invariant-loop-value : goal.invariant-loop-value
invariant-loop-value l = behind (map node_view l.values.items) (arguments_view l.all) ≡ argument_chain (map node_view l.fn.values.items)

abbrev pub decreases-loop-value : goal.decreases-loop-value
decreases-loop-value l = vec_len l.values
