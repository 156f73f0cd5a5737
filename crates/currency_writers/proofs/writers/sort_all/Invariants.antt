use Rattle.std.proofs.Common.{◌≡◌, ℕ, length}
use Rattle.std.specs.List.Sorted.{IsPermutation}
use Rattle.currency_writers.specs.Writers.{writes_in}
use Rattle.currency_writers.proofs.writers.sort_all.Given as goal

abbrev pub invariant-loop-number : goal.invariant-loop-number
invariant-loop-number l = record {
  count : length l.lists.items ≡ length l.fn.lists.items;
  moved : (n : ℕ) → IsPermutation (writes_in l.fn.lists.items n) (writes_in l.lists.items n);
}
