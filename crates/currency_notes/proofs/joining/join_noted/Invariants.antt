use Rattle.std.proofs.Common.{◌≡◌, ℕ, Option, Some, length}
use Rattle.std.specs.Prelude.{◌⊎◌}
use Rattle.graph_core.specs.Graphs.{Recipe}
use Rattle.currency_notes.specs.Notes.{recipe_in, told_in}
use Rattle.currency_notes.proofs.Lowering.{IsLowered}
use Rattle.currency_notes.proofs.joining.join_noted.Given as goal

abbrev pub invariant-loop-k : goal.invariant-loop-k
invariant-loop-k l = record {
  size : length l.to ≡ length l.fn.to;
  kept : (x : ℕ) (r : Recipe) → recipe_in l.fn.to x ≡ Some r → recipe_in l.from x ≡ Some r → recipe_in l.to x ≡ Some r;
  told : (x : ℕ) (c : Option ℕ) → told_in l.to x ≡ Some c → (told_in l.fn.to x ≡ Some c) ⊎ (told_in l.from x ≡ Some c);
  lowered : IsLowered l.fn.to l.from l.to l.k;
}
