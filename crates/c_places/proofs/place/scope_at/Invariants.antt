use Rattle.std.proofs.Common.{◌≡◌, map, drop}
use Rattle.c_places.specs.Places.{place_view}
use Rattle.c_places.specs.Places.{scope_at}
use Rattle.c_places.proofs.place.scope_at.Given as goal

abbrev pub invariant-loop-place : goal.invariant-loop-place
invariant-loop-place l = scope_at (map place_view (drop l.place-index l.places)) l.at ≡ scope_at (map place_view l.places) l.at
