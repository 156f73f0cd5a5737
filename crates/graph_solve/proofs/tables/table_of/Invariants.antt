use Rattle.std.proofs.Common.{◌≡◌}
use Rattle.graph_solve.proofs.Filling.{tabled}
use Rattle.graph_solve.proofs.tables.table_of.Given as goal

abbrev pub invariant-loop-row : goal.invariant-loop-row
invariant-loop-row g l = l.rows ≡ tabled (g.B.Bits.bits l.bits) l.width l.count l.row
