use Rattle.std.proofs.Common.{◌≡◌}
use Rattle.graph_solve.specs.Rows.{sets_at}
use Rattle.graph_solve_live.proofs.rows.sets_of.Given as goal

abbrev pub invariant-loop-row : goal.invariant-loop-row
invariant-loop-row l = l.sets.items ≡ sets_at l.marks.rows 0 l.row
