use Rattle.std.proofs.Common.{◌≡◌, ◌+◌, ◌≤◌, map, drop}
use Rattle.c_places.specs.Places.{place_view}
use Rattle.c_places.specs.Places.{count_before}
use Rattle.c_places.proofs.place.number_at.Given as goal

abbrev pub invariant-loop-place : goal.invariant-loop-place
invariant-loop-place l = record {
  so_far : count_before l.at (map place_view (drop l.place-index l.places)) + l.count ≡ count_before l.at (map place_view l.places);
  bound : l.count ≤ l.place-index;
}
