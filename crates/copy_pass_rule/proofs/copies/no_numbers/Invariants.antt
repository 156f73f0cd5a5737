use Rattle.std.proofs.Common.{◌-◌, ◌≤◌, length}
use Rattle.copy_pass_rule.proofs.copies.no_numbers.Given as goal

abbrev pub invariant-loop-alloc : goal.invariant-loop-alloc
invariant-loop-alloc l = length l.numbers.items ≤ l.blocks

abbrev pub decreases-loop-alloc : goal.decreases-loop-alloc
decreases-loop-alloc l = l.blocks - length l.numbers.items
