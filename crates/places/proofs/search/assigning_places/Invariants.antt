use Rattle.std.proofs.Common.{◌≡◌, ◌*◌, length}
use Rattle.places.proofs.Numbers.{AreBlockedTo}
use Rattle.places.proofs.search.assigning_places.Given as goal

abbrev pub invariant-loop-assignment : goal.invariant-loop-assignment
invariant-loop-assignment l = (length l.blocked.items ≡ 2 * l.fn.bound) × AreBlockedTo l.assignments l.fn.var.0 l.assignment-index l.blocked.items
