use Rattle.std.proofs.Common.{◌≡◌, ◌++◌, map, drop}
use Rattle.c_tree.specs.Programs as tree
use Rattle.c_tree.specs.Programs.{program_view}
use Rattle.graph_core.specs.Graphs.{static_view}
use Rattle.graph_build.specs.Units.{static_of}
use Rattle.graph_build.proofs.statics.variables_of.Given as goal

abbrev pub invariant-loop-variable : goal.invariant-loop-variable
invariant-loop-variable l =
    map static_view l.objects.items ++ map (static_of (program_view l.program)) (map tree.static_view (drop l.variable-index l.program.statics.items)) ≡ map (static_of (program_view l.program)) (map tree.static_view l.program.statics.items)
