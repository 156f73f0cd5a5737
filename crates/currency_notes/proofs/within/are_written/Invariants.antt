use Rattle.std.proofs.Common.{◌≡◌, ℕ, ◌<◌, Some}
use Rattle.std.specs.Prelude.{slice_get}
use Rattle.currency_notes.proofs.within.are_written.Given as goal

abbrev pub invariant-loop-k : goal.invariant-loop-k
invariant-loop-k l = (x y : ℕ) → x < l.k → slice_get l.less x ≡ Some (Some y) → slice_get l.more x ≡ Some (Some y)
