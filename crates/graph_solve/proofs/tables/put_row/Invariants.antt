use Rattle.std.proofs.Common.{◌≡◌}
use Rattle.std.specs.Prelude.{slice_set}
use Rattle.graph_solve.proofs.Filling.{filled}
use Rattle.graph_solve.proofs.tables.put_row.Given as goal

abbrev pub invariant-loop-bit : goal.invariant-loop-bit
invariant-loop-bit g l = l.rows ≡ slice_set l.fn.rows l.row (filled (g.B.Bits.bits l.bits l.row) l.width l.bit)
