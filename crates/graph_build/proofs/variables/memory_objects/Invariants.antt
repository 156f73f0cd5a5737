use Rattle.std.proofs.Common.{◌≡◌, ◌++◌, map, drop}
use Rattle.c_tree.specs.Programs.{program_view}
use Rattle.graph_build.specs.Units.{memory_object}
use Rattle.graph_build.proofs.variables.memory_objects.Given as goal

abbrev pub invariant-loop-variable : goal.invariant-loop-variable
invariant-loop-variable l =
    l.found.items ++ map (memory_object (program_view l.program)) (drop l.variable-index l.kept) ≡ map (memory_object (program_view l.program)) l.kept
