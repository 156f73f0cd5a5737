use Rattle.std.proofs.Common.{◌≡◌, ◌++◌, Some, replicate}
use Rattle.image_build_tables.proofs.variables.push_owner.Given as goal

abbrev pub invariant-loop : goal.invariant-loop
invariant-loop l = l.owners.items ≡ l.initial.owners.items ++ replicate l.counter (Some l.function)
