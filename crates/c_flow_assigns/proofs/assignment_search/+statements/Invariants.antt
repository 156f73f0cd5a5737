use Rattle.std.proofs.Common.{◌≡◌, ◌≤◌}
use Rattle.c_tree.specs.declared.typed_statement.TypedStatements.{size-TypedStatements}
use Rattle.c_tree.specs.TypedStatements.{statements_view}
use Rattle.c_flow.specs.Assigns.{assigned_by_statements}
use Rattle.c_flow_assigns.specs.Wanted.{has_wanted}
use Rattle.c_flow_assigns.proofs.assignment_search.+statements.Given as goal

abbrev pub invariant-is_in_statements-loop-left : goal.invariant-is_in_statements-loop-left
invariant-is_in_statements-loop-left l = record {
  same :
      has_wanted l.wanted (assigned_by_statements (statements_view l.left))
      ≡ has_wanted l.wanted (assigned_by_statements (statements_view l.all));
  within : size-TypedStatements l.left ≤ size-TypedStatements l.all;
}
