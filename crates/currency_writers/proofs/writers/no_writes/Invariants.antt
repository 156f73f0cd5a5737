use Rattle.std.proofs.Common.{◌≡◌, ℕ, [], length}
use Rattle.currency_writers.specs.Writers.{writes_in}
use Rattle.currency_writers.proofs.writers.no_writes.Given as goal

abbrev pub invariant-loop-made : goal.invariant-loop-made
invariant-loop-made l = record { none : (n : ℕ) → writes_in l.lists.items n ≡ []; count : length l.lists.items ≡ l._made }
