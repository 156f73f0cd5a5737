use Rattle.std.proofs.Common.{◌≡◌, ◌++◌, map, drop}
use Rattle.c_tree.specs.Programs.{function_view}
use Rattle.c_flow.specs.Assigns.{assigned_by_functions}
use Rattle.c_flow.proofs.assigned.assigned_by_program.Given as goal

abbrev pub invariant-loop-function : goal.invariant-loop-function
invariant-loop-function l =
    l.found.items ++ assigned_by_functions (map function_view (drop l.function-index l.program.functions.items)) ≡ assigned_by_functions (map function_view l.program.functions.items)
