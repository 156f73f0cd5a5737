use Rattle.std.proofs.Common.{◌≡◌, ◌++◌, map, drop}
use Rattle.c_tree.specs.Programs.{function_view, program_view}
use Rattle.graph_core.specs.Graphs.{graph_view}
use Rattle.graph_build.specs.Units.{graphs_from}
use Rattle.graph_build.proofs.unit.graphs_of.Given as goal

abbrev pub invariant-loop-number : goal.invariant-loop-number
invariant-loop-number l =
    map graph_view l.graphs.items ++ graphs_from (program_view l.source.program.now) l.number (map function_view (drop l.number l.source.program.now.functions.items)) ≡ graphs_from (program_view l.source.program.now) 0 (map function_view l.source.program.now.functions.items)
