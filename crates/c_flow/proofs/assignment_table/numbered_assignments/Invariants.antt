use Rattle.std.proofs.Common.{◌≡◌, ◌++◌, drop}
use Rattle.c_tree.specs.Programs.{program_view}
use Rattle.c_flow.specs.Tables.{assignments_among}
use Rattle.c_flow.proofs.assignment_table.numbered_assignments.Given as goal

abbrev pub invariant-loop-assigned : goal.invariant-loop-assigned
invariant-loop-assigned l =
    l.assignments.items ++ assignments_among (program_view l.program) l.positions (drop l.assigned-index l.all) ≡ assignments_among (program_view l.program) l.positions l.all
