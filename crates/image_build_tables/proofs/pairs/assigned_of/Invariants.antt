use Rattle.std.proofs.Common.{◌≡◌, map, take}
use Rattle.image_build_tables.specs.Tables.{assigned_pair}
use Rattle.image_build_tables.proofs.pairs.assigned_of.Given as goal

abbrev pub invariant-loop-assignment : goal.invariant-loop-assignment
invariant-loop-assignment l = l.pairs.items ≡ map assigned_pair (take l.assignment-index l.assignments)
