use Rattle.std.proofs.Common.{◌≡◌, ◌+◌, ◌-◌, ◌++◌}
use Rattle.c_tree.specs.Programs.{function_view}
use Rattle.c_places.specs.Places.{numbers_from}
use Rattle.c_flow.specs.Assigns.{assigned_by_entry}
use Rattle.c_flow.proofs.EachAssigned.{entry_assigns}
use Rattle.c_flow.proofs.assigned.add_entry.Given as goal

abbrev pub invariant-loop-i : goal.invariant-loop-i
invariant-loop-i l =
    l.found.items ++ entry_assigns l.function.spot.at (numbers_from (l.function.first_variable + l.i) (l.function.parameters - l.i)) ≡ l.fn.found.items ++ assigned_by_entry (function_view l.function)
