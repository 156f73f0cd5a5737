use Rattle.std.proofs.Common.{◌≡◌, ℕ, suc, ◌+◌, ◌<◌, ◌≤◌, false, Some, length}
use Rattle.std.specs.Prelude.{◌==◌, ◌||◌, slice_get}
use Rattle.copy_pass_rule.specs.declared.copies.CopyAt.{CopyAt}
use Rattle.graph_paths.specs.PathMarksTable.{bits_of}
use Rattle.copy_pass_rule.proofs.copies.parts_of.Given as goal

abbrev pub invariant-loop-k : goal.invariant-loop-k
invariant-loop-k l = record {
  count : l.parts.count ≡ l.scalars;
  width : l.parts.width ≡ length l.all + 1;
  parts : (n k : ℕ) (c : CopyAt) → k < l.k → slice_get l.all k ≡ Some c → bits_of l.parts n (suc k) ≡ ((n == c.target) || (n == c.source));
  later : (row k : ℕ) → l.k ≤ k → bits_of l.parts row (suc k) ≡ false;
  apart : (row : ℕ) → bits_of l.parts row 0 ≡ false;
}
