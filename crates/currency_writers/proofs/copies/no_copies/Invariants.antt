use Rattle.std.proofs.Common.{◌≡◌, ℕ, [], length}
use Rattle.currency_writers.specs.Copies.{copies_to}
use Rattle.currency_writers.proofs.copies.no_copies.Given as goal

abbrev pub invariant-loop-made : goal.invariant-loop-made
invariant-loop-made l = record { none : (x : ℕ) → copies_to l.lists.items x ≡ []; count : length l.lists.items ≡ l._made }
