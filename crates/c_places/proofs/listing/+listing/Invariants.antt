use Rattle.std.proofs.Common.{◌≡◌, ◌≤◌, ◌++◌, map}
use Rattle.c_tree.specs.declared.typed_statement.TypedStatements.{size-TypedStatements}
use Rattle.c_tree.specs.TypedStatements.{statements_view}
use Rattle.c_places.specs.Places.{place_view, places_of_all}
use Rattle.c_places.proofs.listing.+listing.Given as goal

abbrev pub invariant-add_statements-loop-left : goal.invariant-add_statements-loop-left
invariant-add_statements-loop-left l = record {
  same :
      map place_view l.found.items ++ places_of_all l.function l.scope.items (statements_view l.left) ≡ map place_view l.fn.found.items ++ places_of_all l.function l.fn.outer.items (statements_view l.all);
  within : size-TypedStatements l.left ≤ size-TypedStatements l.all;
}
