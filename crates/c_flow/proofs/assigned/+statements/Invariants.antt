use Rattle.std.proofs.Common.{◌≡◌, ◌≤◌, ◌++◌}
use Rattle.c_tree.specs.declared.typed_statement.TypedStatements.{size-TypedStatements}
use Rattle.c_tree.specs.TypedStatements.{statements_view}
use Rattle.c_flow.specs.Assigns.{assigned_by_statements}
use Rattle.c_flow.proofs.assigned.+statements.Given as goal

abbrev pub invariant-add_statements-loop-left : goal.invariant-add_statements-loop-left
invariant-add_statements-loop-left l = record {
  same : l.found.items ++ assigned_by_statements (statements_view l.left) ≡ l.fn.found.items ++ assigned_by_statements (statements_view l.all);
  within : size-TypedStatements l.left ≤ size-TypedStatements l.all;
}
