use Rattle.std.proofs.Common.{◌≡◌, ◌-◌, map, drop}
use Rattle.c_tree.specs.Programs.{function_view, program_view}
use Rattle.c_flow_assigns.specs.PlacesBefore.{functions_before, places_before}
use Rattle.c_flow_assigns.proofs.places_before.after_places.Given as goal

abbrev pub invariant-loop-function : goal.invariant-loop-function
invariant-loop-function l =
    l.left - functions_before l.at (map function_view (drop l.function-index l.program.functions.items)) ≡ l.number - places_before l.at (program_view l.program)
