use Rattle.std.proofs.Common.{◌≡◌, ◌≤◌, ◌-◌}
use Rattle.c_tree.specs.declared.typed_statement.TypedStatements.{size-TypedStatements}
use Rattle.c_tree.specs.TypedStatements.{statements_view}
use Rattle.c_flow_assigns.specs.PlacesBefore.{statements_before}
use Rattle.c_flow_assigns.proofs.places_before.+statements.Given as goal

abbrev pub invariant-after_statements-loop-rest : goal.invariant-after_statements-loop-rest
invariant-after_statements-loop-rest l = record {
  same : l.left - statements_before l.at (statements_view l.rest) ≡ l.number - statements_before l.at (statements_view l.all);
  within : size-TypedStatements l.rest ≤ size-TypedStatements l.all;
}
