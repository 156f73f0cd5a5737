use Rattle.std.proofs.Common.{◌≡◌, ◌++◌, map, drop}
use Rattle.c_tree.specs.TypedStatements.{declared_view}
use Rattle.c_flow.specs.Assigns.{assigned_by_declarators}
use Rattle.c_flow.proofs.assigned.add_declarators.Given as goal

abbrev pub invariant-loop-declared : goal.invariant-loop-declared
invariant-loop-declared l =
    l.found.items ++ assigned_by_declarators (map declared_view (drop l.declared-index l.all)) ≡ l.fn.found.items ++ assigned_by_declarators (map declared_view l.all)
