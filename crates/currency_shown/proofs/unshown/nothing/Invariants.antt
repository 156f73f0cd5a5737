use Rattle.std.proofs.Common.{◌≡◌, ◌-◌, ◌≤◌, ℕ, [], length}
use Rattle.currency_shown.specs.Found.{entries_of}
use Rattle.currency_shown.proofs.unshown.nothing.Given as goal

abbrev pub invariant-loop-unshown : goal.invariant-loop-unshown
invariant-loop-unshown l = record {
  none : (x : ℕ) → entries_of l.unshown.items x ≡ [];
  most : length l.unshown.items ≤ l.scalars;
}

abbrev pub decreases-loop-unshown : goal.decreases-loop-unshown
decreases-loop-unshown l = l.scalars - length l.unshown.items
