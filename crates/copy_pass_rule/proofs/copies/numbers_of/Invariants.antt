use Rattle.std.proofs.Common.{◌≡◌, ℕ, suc, ◌<◌, Some, length}
use Rattle.std.specs.Prelude.{slice_get}
use Rattle.copy_pass_rule.specs.declared.copies.CopyAt.{CopyAt}
use Rattle.copy_pass_rule.specs.Found.{AreApart, AreWithin}
use Rattle.copy_pass_rule.specs.Numbered.{number_at}
use Rattle.copy_pass_rule.proofs.copies.numbers_of.Given as goal

abbrev pub invariant-loop-k : goal.invariant-loop-k
invariant-loop-k l = record {
  count : length l.numbers.items ≡ l.blocks;
  numbered : AreApart l.all → AreWithin l.all l.blocks → (k : ℕ) (c : CopyAt) → k < l.k → slice_get l.all k ≡ Some c
      → number_at l.numbers.items c.block c.left ≡ suc k;
}
