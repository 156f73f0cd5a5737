use Rattle.std.proofs.Common.{◌≡◌, ◌++◌, map, drop}
use Rattle.c_tree.specs.Programs.{function_view, program_view}
use Rattle.graph_core.specs.Graphs.{scalar_view}
use Rattle.graph_build.specs.Units.{scalar_record}
use Rattle.graph_build.proofs.variables.scalar_records.Given as goal

abbrev pub invariant-loop-variable : goal.invariant-loop-variable
invariant-loop-variable l =
    map scalar_view l.found.items ++ map (scalar_record (program_view l.source.program.now) (function_view l.function) l.entry l.scalars) (drop l.variable-index l.scalars) ≡ map (scalar_record (program_view l.source.program.now) (function_view l.function) l.entry l.scalars) l.scalars
