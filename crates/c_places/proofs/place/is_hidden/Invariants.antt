use Rattle.std.proofs.Common.{◌≡◌, map, drop}
use Rattle.c_tree.specs.Programs.{automatic_view}
use Rattle.c_places.specs.Places.{is_hidden}
use Rattle.c_places.proofs.place.is_hidden.Given as goal

abbrev pub invariant-loop-other : goal.invariant-loop-other
invariant-loop-other l =
    is_hidden (map automatic_view l.automatics) l.variable (drop l.other-index l.later) ≡ is_hidden (map automatic_view l.automatics) l.variable l.later
