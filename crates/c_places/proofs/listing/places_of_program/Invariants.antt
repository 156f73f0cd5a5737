use Rattle.std.proofs.Common.{◌≡◌, ◌++◌, map, drop}
use Rattle.c_tree.specs.Programs.{function_view}
use Rattle.c_places.specs.Places.{place_view, places_of_functions}
use Rattle.c_places.proofs.listing.places_of_program.Given as goal

abbrev pub invariant-loop-number : goal.invariant-loop-number
invariant-loop-number l =
    map place_view l.found.items ++ places_of_functions l.number (map function_view (drop l.number l.program.functions.items)) ≡ places_of_functions 0 (map function_view l.program.functions.items)
