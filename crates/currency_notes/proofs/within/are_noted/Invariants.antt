use Rattle.std.proofs.Common.{ℕ, ◌<◌}
use Rattle.currency_notes.specs.Notes.{noted_in}
use Rattle.currency_notes.specs.Ranks.{IsNotedWithin}
use Rattle.currency_notes.proofs.within.are_noted.Given as goal

abbrev pub invariant-loop-k : goal.invariant-loop-k
invariant-loop-k l = (x : ℕ) → x < l.k → IsNotedWithin x (noted_in l.less x) (noted_in l.more x)
