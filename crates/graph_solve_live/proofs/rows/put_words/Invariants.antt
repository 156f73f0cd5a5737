use Rattle.std.proofs.Common.{◌≡◌, ℕ, ◌*◌, ◌<◌}
use Rattle.bit_rows.specs.Grid.{is_set}
use Rattle.graph_paths.specs.PathMarksTable.{bits_of}
use Rattle.graph_solve.specs.Rows.{AreSameElsewhere}
use Rattle.graph_solve_live.proofs.rows.put_words.Given as goal

abbrev pub invariant-loop-index : goal.invariant-loop-index
invariant-loop-index l = record {
  elsewhere : AreSameElsewhere l.row l.fn.rows l.rows;
  here : (bit : ℕ) → bit < 64 * l.index → is_set l.rows l.row bit ≡ bits_of l.marks l.from bit;
}
