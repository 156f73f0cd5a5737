use Rattle.std.proofs.Common.{◌≡◌, ◌++◌, map, drop}
use Rattle.c_tree.specs.Programs.{function_view}
use Rattle.c_flow.specs.Flow.{flow_of_functions}
use Rattle.c_flow.proofs.flow_edges.flow_of_program.Given as goal

abbrev pub invariant-loop-function : goal.invariant-loop-function
invariant-loop-function l =
    l.found.items ++ flow_of_functions (map function_view (drop l.function-index l.program.functions.items)) ≡ flow_of_functions (map function_view l.program.functions.items)
