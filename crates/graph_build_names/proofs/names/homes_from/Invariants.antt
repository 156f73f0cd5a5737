use Rattle.std.proofs.Common.{◌≡◌, ◌++◌, map, drop}
use Rattle.c_tree.specs.Programs.{automatic_view}
use Rattle.graph_build_names.specs.Names.{homes_from}
use Rattle.graph_build_names.proofs.names.homes_from.Given as goal

abbrev pub invariant-loop-variable : goal.invariant-loop-variable
invariant-loop-variable l =
    l.homes.items ++ homes_from l.scalars l.objects (map automatic_view (drop l.variable-index l.variables)) ≡ homes_from 0 0 (map automatic_view l.variables)
