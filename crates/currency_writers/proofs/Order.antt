-- The order of lists of numbers.
use Rattle.std.proofs.Common.{◌≡◌, inl, inr, ℕ, ◌<◌, List, [], ◌∷◌, refl, sym, subst, ◌∙◌, arith}
use Rattle.std.specs.Prelude.{◌⊎◌}
use Rattle.currency_writers.specs.Order.{IsNoLater}

pub no_later_same : (xs : List ℕ) → IsNoLater xs xs
no_later_same [] = tt
no_later_same (x ∷ xs) = inr (refl, no_later_same xs)

-- one number more
first_on : (x y z : ℕ) (A B C : Type 0) → (A → B → C) → (x < y) ⊎ ((x ≡ y) × A) → (y < z) ⊎ ((y ≡ z) × B) → (x < z) ⊎ ((x ≡ z) × C)
first_on x y z A B C rest one two = elim one [
  | inl less ↦ elim two [ inl more ↦ inl (omega (arith, less, more)) | inr e ↦ inl (subst (λ n. x < n) e.0 less) ]
  | inr e ↦ elim two [ inl more ↦ inl (subst (λ n. n < z) (sym e.0) more) | inr f ↦ inr (e.0 ∙ f.0, rest e.1 f.1) ]
]

pub no_later_on : (xs ys zs : List ℕ) → IsNoLater xs ys → IsNoLater ys zs → IsNoLater xs zs
no_later_on [] ys zs one two = tt
no_later_on (x ∷ xs) [] zs one two = absurd one
no_later_on (x ∷ xs) (y ∷ ys) [] one two = absurd two
no_later_on (x ∷ xs) (y ∷ ys) (z ∷ zs) one two = first_on x y z (IsNoLater xs ys) (IsNoLater ys zs) (IsNoLater xs zs) (no_later_on xs ys zs) one two
