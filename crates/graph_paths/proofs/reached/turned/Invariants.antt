use Rattle.std.proofs.Common.{◌≡◌, ℕ, ◌<◌, ◌≤◌, false}
use Rattle.graph_paths.specs.PathMarksTable.{bits_of}
use Rattle.graph_paths.proofs.reached.turned.Given as goal

abbrev pub invariant-loop-number : goal.invariant-loop-number
invariant-loop-number l = record {
  rows : l.row.count ≡ 1;
  width : l.row.width ≡ l.count;
  told : (n : ℕ) → n < l.number → bits_of l.row 0 n ≡ bits_of l.column n 0;
  ahead : (n : ℕ) → l.number ≤ n → bits_of l.row 0 n ≡ false;
}
