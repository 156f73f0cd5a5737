use Rattle.std.proofs.Common.{◌≡◌, map, drop}
use Rattle.c_tree.specs.Programs.{function_view, program_view}
use Rattle.c_flow.specs.Assigns.{assigned_by_functions, assigned_by_program}
use Rattle.c_flow_assigns.specs.Wanted.{has_wanted}
use Rattle.c_flow_assigns.proofs.assignment_search.is_in_program.Given as goal

abbrev pub invariant-loop-function : goal.invariant-loop-function
invariant-loop-function l =
    has_wanted l.wanted (assigned_by_functions (map function_view (drop l.function-index l.wanted.program.now.functions.items)))
    ≡ has_wanted l.wanted (assigned_by_program (program_view l.wanted.program.now))
