use Rattle.std.proofs.Common.{◌≡◌, ℕ, ◌<◌, ◌≤◌}
use Rattle.bit_rows.specs.Grid.{is_set}
use Rattle.graph_paths.specs.PathMarksTable.{bits_of}
use Rattle.graph_solve.specs.Rows.{AreSameElsewhere}
use Rattle.graph_solve_live.proofs.rows.put_bits.Given as goal

abbrev pub invariant-loop-bit : goal.invariant-loop-bit
invariant-loop-bit l = record {
  least : l.first ≤ l.bit;
  elsewhere : AreSameElsewhere l.row l.fn.rows l.rows;
  before : (bit : ℕ) → bit < l.first → is_set l.rows l.row bit ≡ is_set l.fn.rows l.row bit;
  here : (bit : ℕ) → l.first ≤ bit → bit < l.bit → is_set l.rows l.row bit ≡ bits_of l.marks l.from bit;
}
