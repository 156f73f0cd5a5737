use Rattle.std.proofs.Common.{◌≡◌, ◌+◌, ◌++◌, drop, sum}
use Rattle.stop_engine_tables.specs.Tables.{starts_from}
use Rattle.stop_engine_tables.proofs.tables.starts_of.Given as goal

abbrev pub invariant-loop-length : goal.invariant-loop-length
invariant-loop-length l = record {
  starts : l.starts.items ++ starts_from l.start (drop l.length-index l.lengths) ≡ starts_from l.fn.first l.lengths;
  sum : l.start + sum (drop l.length-index l.lengths) ≡ l.fn.first + sum l.lengths;
}
