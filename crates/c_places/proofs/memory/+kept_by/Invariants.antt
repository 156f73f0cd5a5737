use Rattle.std.proofs.Common.{◌≡◌, ◌≤◌}
use Rattle.c_tree.specs.declared.typed_statement.TypedStatements.{size-TypedStatements}
use Rattle.c_tree.specs.TypedStatements.{statements_view}
use Rattle.c_places.specs.Memory.{kept_by_all}
use Rattle.c_places.proofs.memory.+kept_by.Given as goal

abbrev pub invariant-of_statements-loop-left : goal.invariant-of_statements-loop-left
invariant-of_statements-loop-left l = record {
  same : kept_by_all (statements_view l.left) l.kept.items ≡ kept_by_all (statements_view l.all) l.fn.kept.items;
  within : size-TypedStatements l.left ≤ size-TypedStatements l.all;
}
