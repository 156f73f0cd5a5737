use Rattle.std.proofs.Common.{◌≡◌, map, take}
use Rattle.c_places.specs.declared.place.Place.{Place}
use Rattle.c_flow.proofs.numbering.positions_of.Given as goal

abbrev pub invariant-loop-place : goal.invariant-loop-place
invariant-loop-place l = l.positions.items ≡ map (λ (p : Place). p.spot.at) (take l.place-index l.places)
