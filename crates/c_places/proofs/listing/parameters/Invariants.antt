use Rattle.std.proofs.Common.{◌≡◌, ◌++◌, ◌+◌, ◌-◌}
use Rattle.c_places.specs.Places.{numbers_from}
use Rattle.c_places.proofs.listing.parameters.Given as goal

abbrev pub invariant-loop-i : goal.invariant-loop-i
invariant-loop-i l =
    l.found.items ++ numbers_from (l.function.first_variable + l.i) (l.function.parameters - l.i) ≡ numbers_from l.function.first_variable l.function.parameters
