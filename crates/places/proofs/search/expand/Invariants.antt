use Rattle.std.proofs.Common.{◌≡◌, Some}
use Rattle.std.specs.Prelude.{slice_get}
use Rattle.places.specs.Search.{Searched, quest_of}
use Rattle.places.proofs.search.expand.Given as goal

abbrev pub invariant-loop-index : goal.invariant-loop-index
invariant-loop-index l = Searched (quest_of l.request) l.head l.index l.visits.items l.closed × (slice_get l.visits.items l.head ≡ Some l.visit)
