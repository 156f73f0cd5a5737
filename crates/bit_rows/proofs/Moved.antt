-- Words that are written one after another, from a place on.
use Rattle.std.proofs.Common.{◌≡◌, ℕ, ◌+◌, ◌<◌, ◌≤◌, ◌⊎◌, inl, inr, List, length, get_or, sym, ap, ◌∙◌, arith}
use Rattle.std.proofs.Math.ListN.{set}
use Rattle.std.proofs.lemmas.Bool.{cases_eq}
use Rattle.std.proofs.lemmas.List.{get_or-set_same, get_or-set_other}

-- So many words from a place on are what they are to be, and all others are as they were.
pub record AreWritten (old : List ℕ) (to : ℕ) (wanted : ℕ → ℕ) (words : List ℕ) (k : ℕ) : Type 0 where
  pub done : (j : ℕ) → j < k → get_or words (to + j) 0 ≡ wanted j
  pub others : (j : ℕ) → (j < to) ⊎ (to + k ≤ j) → get_or words j 0 ≡ get_or old j 0

module _ (old : List ℕ) (to : ℕ) (wanted : ℕ → ℕ) (words : List ℕ) (k : ℕ) where
  pub written_more : AreWritten old to wanted words k → (w : ℕ) → w ≡ wanted k → to + k < length words → AreWritten old to wanted (set words (to + k) w) (k + 1)
  written_more before w is lt = record {
    done = λ j less. elim (cases_eq j k) [
      | inl e ↦ ap (λ i. get_or (set words (to + k) w) (to + i) 0) e ∙ get_or-set_same words (to + k) w 0 lt ∙ is ∙ ap wanted (sym e)
      | inr ne ↦ get_or-set_other words (to + k) (to + j) w 0 (λ q. ne (omega (arith, q))) ∙ before.done j (omega (arith, ne))
    ];
    others = λ j out. get_or-set_other words (to + k) j w 0 (differs j out) ∙ before.others j (further j out);
  }
    where
      differs : (j : ℕ) → (j < to) ⊎ (to + (k + 1) ≤ j) → j ≡ to + k → ⊥
      differs j (inl less) q = omega (arith, q)
      differs j (inr more) q = omega (arith, q)

      further : (j : ℕ) → (j < to) ⊎ (to + (k + 1) ≤ j) → (j < to) ⊎ (to + k ≤ j)
      further j (inl less) = inl less
      further j (inr more) = inr (omega arith)
