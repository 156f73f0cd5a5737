use Rattle.std.proofs.Common.{◌≡◌, ◌*◌, length}
use Rattle.places.proofs.Numbers.{AreFlaggedTo}
use Rattle.places.proofs.search.flagged_places.Given as goal

abbrev pub invariant-loop-place : goal.invariant-loop-place
invariant-loop-place l = (length l.blocked.items ≡ 2 * l.fn.bound) × AreFlaggedTo l.flags l.place l.blocked.items
