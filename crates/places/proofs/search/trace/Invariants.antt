use Rattle.std.proofs.Common.{ℕ, List, ◌++◌, [], ◌∷◌}
use Rattle.places.specs.Search.{IsWayTo}
use Rattle.places.proofs.Tracing.{IsTraced}
use Rattle.places.proofs.search.trace.Given as goal

abbrev pub invariant-loop-at : goal.invariant-loop-at
invariant-loop-at l = ((way : List ℕ) × IsWayTo l.visits l.at way) × ((whole : List ℕ) → IsWayTo l.visits l.fn.head whole → IsTraced l.visits l.at l.back.items (whole ++ l.fn.stop.0 ∷ []))

abbrev pub decreases-loop-at : goal.decreases-loop-at
decreases-loop-at l = l.at
