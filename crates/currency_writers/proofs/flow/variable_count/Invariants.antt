use Rattle.std.proofs.Common.{◌<◌, take}
use Rattle.std.specs.Prelude.{All}
use Rattle.places.specs.declared.flow.Assignment.{Assignment}
use Rattle.currency_writers.proofs.flow.variable_count.Given as goal

abbrev pub invariant-loop-assignment : goal.invariant-loop-assignment
invariant-loop-assignment l = All (λ (a : Assignment). a.var.0 < l.count) (take l.assignment-index l.assignments)
