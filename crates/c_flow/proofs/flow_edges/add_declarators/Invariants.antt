use Rattle.std.proofs.Common.{◌≡◌, ◌++◌, map, drop}
use Rattle.c_tree.specs.TypedStatements.{declared_view}
use Rattle.c_flow.specs.Flow.{flow_of_declarators}
use Rattle.c_flow.proofs.flow_edges.add_declarators.Given as goal

abbrev pub invariant-loop-i : goal.invariant-loop-i
invariant-loop-i l =
    l.found.items ++ flow_of_declarators (map declared_view (drop l.i l.all)) l.next ≡ l.fn.found.items ++ flow_of_declarators (map declared_view l.all) l.next
