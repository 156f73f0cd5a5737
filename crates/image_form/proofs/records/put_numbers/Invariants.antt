use Rattle.std.proofs.Common.{◌≡◌, ◌++◌, take}
use Rattle.image_form.specs.Spelling.{spelled}
use Rattle.image_form.proofs.records.put_numbers.Given as goal

abbrev pub invariant-loop-number : goal.invariant-loop-number
invariant-loop-number l = l.out.items ≡ l.initial.out.items ++ spelled (take l.number-index l.numbers)
