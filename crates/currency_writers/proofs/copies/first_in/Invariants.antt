use Rattle.std.proofs.Common.{◌≡◌, drop}
use Rattle.currency_writers.specs.Copies.{first_of}
use Rattle.currency_writers.proofs.copies.first_in.Given as goal

abbrev pub invariant-loop-copied : goal.invariant-loop-copied
invariant-loop-copied l = first_of (drop l.copied-index l.copies) l.place ≡ first_of l.copies l.place
