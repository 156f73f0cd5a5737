use Rattle.std.proofs.Common.{◌≡◌, take}
use Rattle.bit_rows.specs.Grid.{row_at}
use Rattle.graph_solve.specs.Rows.{set_of}
use Rattle.graph_solve_live.proofs.rows.facts_of.Given as goal

abbrev pub invariant-loop-bit : goal.invariant-loop-bit
invariant-loop-bit l = l.facts ≡ set_of (take l.bit (row_at l.marks.rows l.row))
