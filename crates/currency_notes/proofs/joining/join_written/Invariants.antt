use Rattle.std.proofs.Common.{◌≡◌, ℕ, Some, length}
use Rattle.std.specs.Prelude.{slice_get}
use Rattle.currency_notes.proofs.Lowering.{IsFewer}
use Rattle.currency_notes.proofs.joining.join_written.Given as goal

abbrev pub invariant-loop-k : goal.invariant-loop-k
invariant-loop-k l = record {
  size : length l.to ≡ length l.fn.to;
  kept : (k y : ℕ) → slice_get l.fn.to k ≡ Some (Some y) → slice_get l.from k ≡ Some (Some y) → slice_get l.to k ≡ Some (Some y);
  fewer : IsFewer l.fn.to l.from l.to l.k;
}
