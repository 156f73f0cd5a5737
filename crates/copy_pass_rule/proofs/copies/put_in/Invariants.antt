use Rattle.std.proofs.Common.{◌≡◌, ℕ, ◌+◌, ◌-◌, get_or, length}
use Rattle.copy_pass_rule.proofs.copies.put_in.Given as goal

abbrev pub invariant-loop-row : goal.invariant-loop-row
invariant-loop-row l = (other : ℕ) → get_or l.row.items other 0 ≡ get_or l.fn.row.items other 0

abbrev pub decreases-loop-row : goal.decreases-loop-row
decreases-loop-row l = l.index + 1 - length l.row.items
