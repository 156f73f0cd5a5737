use Rattle.std.proofs.Common.{◌≡◌, ◌++◌, map, drop}
use Rattle.debug_records.specs.declared.change.Var.{Var}
use Rattle.c_tree.specs.Programs.{program_view}
use Rattle.c_flow.specs.Rows.{numbers_of}
use Rattle.c_flow.proofs.visible_variables.numbers_of.Given as goal

abbrev pub invariant-loop-variable : goal.invariant-loop-variable
invariant-loop-variable l =
    map (λ (v : Var). v.0) l.found.items ++ numbers_of (program_view l.program) (drop l.variable-index l.variables) ≡ numbers_of (program_view l.program) l.variables
