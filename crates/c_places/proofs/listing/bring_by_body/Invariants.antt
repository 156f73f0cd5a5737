use Rattle.std.proofs.Common.{◌≡◌, ◌++◌}
use Rattle.c_tree.specs.TypedStatements.{statements_view}
use Rattle.c_places.specs.Places.{brought_by_body}
use Rattle.c_places.proofs.listing.bring_by_body.Given as goal

abbrev pub invariant-loop-left : goal.invariant-loop-left
invariant-loop-left l = l.scope.items ++ brought_by_body (statements_view l.left) ≡ l.fn.scope.items ++ brought_by_body (statements_view l.body)
