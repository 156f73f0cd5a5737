use Rattle.std.proofs.Common.{◌≡◌, ◌≤◌, ◌++◌}
use Rattle.c_tree.specs.declared.typed_statement.TypedStatements.{size-TypedStatements}
use Rattle.c_tree.specs.TypedStatements.{statements_view}
use Rattle.c_flow.specs.Flow.{flow_of_all}
use Rattle.c_flow.proofs.flow_edges.+flow.Given as goal

abbrev pub invariant-add_statements-loop-left : goal.invariant-add_statements-loop-left
invariant-add_statements-loop-left l = record {
  same : l.found.items ++ flow_of_all l.ways (statements_view l.left) ≡ l.fn.found.items ++ flow_of_all l.ways (statements_view l.all);
  within : size-TypedStatements l.left ≤ size-TypedStatements l.all;
}
