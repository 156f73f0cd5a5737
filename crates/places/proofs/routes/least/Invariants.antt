use Rattle.std.proofs.Common.{◌-◌, ◌^◌}
use Rattle.places.specs.Search.{Searched, quest_of}
use Rattle.places.proofs.routes.least.Given as goal

abbrev pub invariant-loop-head : goal.invariant-loop-head
invariant-loop-head l = Searched (quest_of l.request) l.head 0 l.visits.items l.closed.items

abbrev pub decreases-loop-head : goal.decreases-loop-head
decreases-loop-head l = 2 ^ 64 - l.head
