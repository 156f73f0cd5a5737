use Rattle.std.proofs.Common.{◌≡◌, length}
use Rattle.currency_writers.proofs.Entering.{ArePast}
use Rattle.currency_writers.proofs.marks.clear.Given as goal

abbrev pub invariant-loop-k : goal.invariant-loop-k
invariant-loop-k g l = record {
  count : length l.entries.items ≡ length l.fn.entries.items;
  past : ArePast l.k l.entries.items;
}
