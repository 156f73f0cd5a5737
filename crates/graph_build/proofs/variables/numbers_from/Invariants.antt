use Rattle.std.proofs.Common.{◌≡◌, ◌++◌, ◌+◌, ◌-◌}
use Rattle.c_places.specs.Places.{numbers_from}
use Rattle.graph_build.proofs.variables.numbers_from.Given as goal

abbrev pub invariant-loop-i : goal.invariant-loop-i
invariant-loop-i l = l.found.items ++ numbers_from (l.first + l.i) (l.count - l.i) ≡ numbers_from l.first l.count
