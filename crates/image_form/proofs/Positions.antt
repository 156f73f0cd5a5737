-- The first record that passes a test.
use Rattle.std.proofs.Common.{◌≡◌, ℕ, zero, suc, ◌+◌, Bool, true, false, List, [], ◌∷◌, Some, refl, ap, ◌∙◌, arith, inl, inr}
use Rattle.std.specs.Prelude.{slice_get}
use Rattle.std.specs.List.{position_from}
use Rattle.std.proofs.lemmas.Bool.{cases_Bool}
use Rattle.std.proofs.lemmas.Option.{none-some, same_Some}

-- The only one that passes is the first.
pub position_only : {A : Type 0} (test : A → Bool) (n : ℕ) (xs : List A) (i : ℕ) (x : A) → slice_get xs i ≡ Some x → test x ≡ true
    → ((j : ℕ) (y : A) → slice_get xs j ≡ Some y → test y ≡ true → j ≡ i) → position_from test n xs ≡ Some (n + i)
position_only test n [] i x at pass only = absurd cc
position_only test n (y ∷ xs) zero x at pass only = let same = same_Some y x at in let none : n ≡ n + 0 = omega arith in rw (same, pass) (ap Some none)
position_only test n (y ∷ xs) (suc i) x at pass only =
    let later = position_only test (n + 1) xs i x at pass (λ j z e t. let same = only (suc j) z e t in omega (arith, same)) in
    let sums : n + 1 + i ≡ n + suc i = omega arith in
    elim (cases_Bool (test y)) [
      | inl t ↦ absurd (let zero_is : 0 ≡ suc i = only 0 y refl t in omega (arith, zero_is))
      | inr t ↦ rw t (later ∙ ap Some sums)
    ]

-- The first that passes is there and passes.
pub position_is : {A : Type 0} (test : A → Bool) (n : ℕ) (xs : List A) (k : ℕ) → position_from test n xs ≡ Some k → (j : ℕ) × (y : A) × (k ≡ n + j) × (slice_get xs j ≡ Some y) × (test y ≡ true)
position_is {A = A} test n [] k e = absurd (none-some k e)
position_is {A = A} test n (x ∷ xs) k e = go (test x) refl (position_is test (n + 1) xs k)
  where
    go : (b : Bool) → test x ≡ b → (position_from test (n + 1) xs ≡ Some k → (j : ℕ) × (y : A) × (k ≡ n + 1 + j) × (slice_get xs j ≡ Some y) × (test y ≡ true))
        → (j : ℕ) × (y : A) × (k ≡ n + j) × (slice_get (x ∷ xs) j ≡ Some y) × (test y ≡ true)
    go true t later = let same : n ≡ k = same_Some n k (rw t at e) in (0, x, omega (arith, same), refl, t)
    go false t later = let found = later (rw t at e) in (suc found.0, found.1, omega (arith, found.2), found.3, found.4)
