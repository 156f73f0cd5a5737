use Rattle.std.proofs.Common.{◌≡◌, ◌++◌, map, drop}
use Rattle.c_tree.specs.Programs.{automatic_view}
use Rattle.c_places.specs.Places.{visible}
use Rattle.c_places.proofs.place.visible.Given as goal

abbrev pub invariant-loop-i : goal.invariant-loop-i
invariant-loop-i l =
    l.found.items ++ visible (map automatic_view l.automatics) (drop l.i l.scope) ≡ visible (map automatic_view l.automatics) l.scope
