use Rattle.std.proofs.Common.{◌≡◌, ◌≤◌}
use Rattle.c_tree.specs.declared.typed_statement.TypedStatements.{size-TypedStatements}
use Rattle.c_tree.specs.TypedStatements.{statements_view}
use Rattle.graph_build_statements.specs.Coding.{coding_view}
use Rattle.graph_build_statements.specs.Reached.{statements_reached}
use Rattle.graph_build_statements.proofs.names.+reached.Given as goal

abbrev pub invariant-statements_reached-loop-left : goal.invariant-statements_reached-loop-left
invariant-statements_reached-loop-left l = record {
  same : statements_reached (coding_view l.form) (statements_view l.left) l.at ≡ statements_reached (coding_view l.form) (statements_view l.all) l.free;
  within : size-TypedStatements l.left ≤ size-TypedStatements l.all;
}
