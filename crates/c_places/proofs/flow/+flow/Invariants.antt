use Rattle.std.proofs.Common.{◌≡◌, ◌≤◌}
use Rattle.c_tree.specs.declared.typed_statement.TypedStatements.{size-TypedStatements}
use Rattle.c_tree.specs.TypedStatements.{statements_view}
use Rattle.c_places.specs.Flow.{exits_of_all}
use Rattle.c_places.proofs.flow.+flow.Given as goal

abbrev pub invariant-exits_of_all-loop-left : goal.invariant-exits_of_all-loop-left
invariant-exits_of_all-loop-left l = record {
  same : exits_of_all l.so_far (statements_view l.left) ≡ exits_of_all l.fn.before (statements_view l.all);
  within : size-TypedStatements l.left ≤ size-TypedStatements l.all;
}
