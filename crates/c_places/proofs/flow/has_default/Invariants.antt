use Rattle.std.proofs.Common.{◌≡◌}
use Rattle.c_tree.specs.TypedStatements.{statements_view}
use Rattle.c_places.specs.Flow.{has_default}
use Rattle.c_places.proofs.flow.has_default.Given as goal

abbrev pub invariant-loop-left : goal.invariant-loop-left
invariant-loop-left l = has_default (statements_view l.left) ≡ has_default (statements_view l.all)
