use Rattle.std.proofs.Common.{◌≡◌, ◌++◌, take}
use Rattle.image_form.specs.Spelling.{section}
use Rattle.image_form.proofs.records.put_records.Given as goal

abbrev pub invariant-loop-record : goal.invariant-loop-record
invariant-loop-record g l = l.out.items ≡ l.initial.out.items ++ section (g.R.Record.numbers l.level) (take l.record-index l.records)
