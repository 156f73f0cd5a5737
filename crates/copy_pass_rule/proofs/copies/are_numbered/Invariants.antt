use Rattle.std.proofs.Common.{◌≡◌, ℕ, suc, ◌<◌, Some}
use Rattle.std.specs.Prelude.{slice_get}
use Rattle.copy_pass_rule.specs.declared.copies.CopyAt.{CopyAt}
use Rattle.copy_pass_rule.specs.Numbered.{number_at}
use Rattle.copy_pass_rule.proofs.copies.are_numbered.Given as goal

abbrev pub invariant-loop-k : goal.invariant-loop-k
invariant-loop-k l = (k : ℕ) (c : CopyAt) → k < l.k → slice_get l.all k ≡ Some c → number_at l.numbers c.block c.left ≡ suc k
