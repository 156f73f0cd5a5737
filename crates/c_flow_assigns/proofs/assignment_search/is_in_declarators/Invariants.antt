use Rattle.std.proofs.Common.{◌≡◌, map, drop}
use Rattle.c_tree.specs.TypedStatements.{declared_view}
use Rattle.c_flow.specs.Assigns.{assigned_by_declarators}
use Rattle.c_flow_assigns.specs.Wanted.{has_wanted}
use Rattle.c_flow_assigns.proofs.assignment_search.is_in_declarators.Given as goal

abbrev pub invariant-loop-declared : goal.invariant-loop-declared
invariant-loop-declared l =
    has_wanted l.wanted (assigned_by_declarators (map declared_view (drop l.declared-index l.all)))
    ≡ has_wanted l.wanted (assigned_by_declarators (map declared_view l.all))
