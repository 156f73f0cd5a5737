use Rattle.std.proofs.Common.{◌≡◌, map, drop}
use Rattle.c_tree.specs.TypedExpressions.{rvalue_view}
use Rattle.c_flow.specs.Assigns.{assigned_by_values}
use Rattle.c_flow_assigns.specs.Wanted.{has_wanted}
use Rattle.c_flow_assigns.proofs.assignment_search.is_in_values.Given as goal

abbrev pub invariant-loop-e : goal.invariant-loop-e
invariant-loop-e l =
    has_wanted l.wanted (assigned_by_values l.at (map rvalue_view (drop l.e-index l.all)))
    ≡ has_wanted l.wanted (assigned_by_values l.at (map rvalue_view l.all))
