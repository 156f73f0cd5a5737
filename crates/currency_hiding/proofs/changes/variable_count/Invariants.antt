use Rattle.std.proofs.Common.{◌<◌, take}
use Rattle.std.specs.Prelude.{All}
use Rattle.debug_records.specs.declared.change.Change.{Change}
use Rattle.currency_hiding.proofs.changes.variable_count.Given as goal

abbrev pub invariant-loop-change : goal.invariant-loop-change
invariant-loop-change l = All (λ (e : Change). e.var.0 < l.count) (take l.change-index l.changes)
