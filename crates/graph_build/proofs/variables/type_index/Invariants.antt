use Rattle.std.proofs.Common.{◌≡◌, ◌+◌, drop}
use Rattle.c_tree.specs.Programs.{program_view}
use Rattle.graph_build.specs.Units.{type_index}
use Rattle.graph_build.proofs.variables.type_index.Given as goal

abbrev pub invariant-loop-i : goal.invariant-loop-i
invariant-loop-i l =
    type_index (program_view l.program) (drop l.i l.scalars) l.variable + l.i ≡ type_index (program_view l.program) l.scalars l.variable
