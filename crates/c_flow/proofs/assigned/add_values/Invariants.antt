use Rattle.std.proofs.Common.{◌≡◌, ◌++◌, map, drop}
use Rattle.c_tree.specs.TypedExpressions.{rvalue_view}
use Rattle.c_flow.specs.Assigns.{assigned_by_values}
use Rattle.c_flow.proofs.assigned.add_values.Given as goal

abbrev pub invariant-loop-e : goal.invariant-loop-e
invariant-loop-e l =
    l.found.items ++ assigned_by_values l.at (map rvalue_view (drop l.e-index l.all)) ≡ l.fn.found.items ++ assigned_by_values l.at (map rvalue_view l.all)
