use Rattle.std.proofs.Common.{◌≡◌, drop}
use Rattle.c_places.specs.Places.{is_same_name}
use Rattle.c_places.proofs.place.is_same_name.Given as goal

abbrev pub invariant-loop-i : goal.invariant-loop-i
invariant-loop-i l = is_same_name (drop l.i l.one) (drop l.i l.other) ≡ is_same_name l.one l.other
