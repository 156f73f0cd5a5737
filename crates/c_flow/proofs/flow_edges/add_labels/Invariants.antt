use Rattle.std.proofs.Common.{◌≡◌, ◌++◌}
use Rattle.c_tree.specs.TypedStatements.{statements_view}
use Rattle.c_flow.specs.Flow.{flow_to_labels}
use Rattle.c_flow.proofs.flow_edges.add_labels.Given as goal

abbrev pub invariant-loop-left : goal.invariant-loop-left
invariant-loop-left l =
    l.found.items ++ flow_to_labels l.from (statements_view l.left) l.next ≡ l.fn.found.items ++ flow_to_labels l.from (statements_view l.all) l.next
