use Rattle.std.proofs.Common.{◌≡◌, map, take}
use Rattle.image_form.specs.declared.tables.Change.{Change}
use Rattle.image_form.specs.Views.{viewed}
use Rattle.stop_engine_tables.proofs.tables.pass_lengths.Given as goal

abbrev pub invariant-loop-number : goal.invariant-loop-number
invariant-loop-number l = l.lengths.items ≡ map (λ (c : Change). c.pass_length) (take l.number (viewed l.image).changes)
