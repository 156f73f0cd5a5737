-- Which of two paths comes first.
use Rattle.std.proofs.Common.{ℕ, ◌<◌, ◌≤◌, List, [], ◌∷◌, ◌++◌, length, refl, sym, ap, ◌∙◌, subst, inl, inr, arith}
use Rattle.std.proofs.lemmas.List.{length-append}
use Rattle.places.specs.Path.{IsLess, IsBefore, IsNotBehind}

-- what was less stays less with one more place
less_more : (xs ys : List ℕ) (a b : ℕ) → IsLess xs ys → IsLess (xs ++ a ∷ []) (ys ++ b ∷ [])
less_more [] ys a b h = absurd h
less_more (x ∷ xs) [] a b h = absurd h
less_more (x ∷ xs) (y ∷ ys) a b (inl h) = inl h
less_more (x ∷ xs) (y ∷ ys) a b (inr h) = inr (h.0, less_more xs ys a b h.1)

less_last : (xs : List ℕ) (a b : ℕ) → a < b → IsLess (xs ++ a ∷ []) (xs ++ b ∷ [])
less_last [] a b h = inl h
less_last (x ∷ xs) a b h = inr (refl, less_last xs a b h)

less_trans : (xs ys zs : List ℕ) → IsLess xs ys → IsLess ys zs → IsLess xs zs
less_trans [] ys zs g h = absurd g
less_trans (x ∷ xs) [] zs g h = absurd g
less_trans (x ∷ xs) (y ∷ ys) [] g h = absurd h
less_trans (x ∷ xs) (y ∷ ys) (z ∷ zs) (inl g) (inl h) = inl (omega arith)
less_trans (x ∷ xs) (y ∷ ys) (z ∷ zs) (inl g) (inr h) = inl (omega arith)
less_trans (x ∷ xs) (y ∷ ys) (z ∷ zs) (inr g) (inl h) = inl (omega arith)
less_trans (x ∷ xs) (y ∷ ys) (z ∷ zs) (inr g) (inr h) = inr (g.0 ∙ h.0, less_trans xs ys zs g.1 h.1)

pub before_more : (xs ys : List ℕ) (a b : ℕ) → IsBefore xs ys → IsBefore (xs ++ a ∷ []) (ys ++ b ∷ [])
before_more xs ys a b (inl h) = inl (omega (arith, length-append xs (a ∷ []), length-append ys (b ∷ [])))
before_more xs ys a b (inr h) = inr (omega (arith, h.0, length-append xs (a ∷ []), length-append ys (b ∷ [])), less_more xs ys a b h.1)

pub before_last : (xs : List ℕ) (a b : ℕ) → a < b → IsBefore (xs ++ a ∷ []) (xs ++ b ∷ [])
before_last xs a b h = inr (omega (arith, length-append xs (a ∷ []), length-append xs (b ∷ [])), less_last xs a b h)

pub before_trans : (xs ys zs : List ℕ) → IsBefore xs ys → IsBefore ys zs → IsBefore xs zs
before_trans xs ys zs (inl g) (inl h) = inl (omega arith)
before_trans xs ys zs (inl g) (inr h) = inl (omega (arith, h.0))
before_trans xs ys zs (inr g) (inl h) = inl (omega (arith, g.0))
before_trans xs ys zs (inr g) (inr h) = inr (g.0 ∙ h.0, less_trans xs ys zs g.1 h.1)

pub before_length : (xs ys : List ℕ) → IsBefore xs ys → length xs ≤ length ys
before_length xs ys (inl h) = omega arith
before_length xs ys (inr h) = omega (arith, h.0)

pub not_behind_length : (xs ys : List ℕ) → IsNotBehind xs ys → length xs ≤ length ys
not_behind_length xs ys (inl h) = omega (arith, ap length h)
not_behind_length xs ys (inr h) = before_length xs ys h

pub not_behind_trans : (xs ys zs : List ℕ) → IsNotBehind xs ys → IsNotBehind ys zs → IsNotBehind xs zs
not_behind_trans xs ys zs (inl g) h = subst (λ w. IsNotBehind w zs) (sym g) h
not_behind_trans xs ys zs (inr g) (inl h) = subst (λ w. IsNotBehind xs w) h (inr g)
not_behind_trans xs ys zs (inr g) (inr h) = inr (before_trans xs ys zs g h)

-- the same last place behind two paths
pub not_behind_more : (xs ys : List ℕ) (a : ℕ) → IsNotBehind xs ys → IsNotBehind (xs ++ a ∷ []) (ys ++ a ∷ [])
not_behind_more xs ys a (inl h) = inl (ap (λ w. w ++ a ∷ []) h)
not_behind_more xs ys a (inr h) = inr (before_more xs ys a a h)

-- a path of no more places comes before any that has two places more
pub shorter_before : (xs ys rest : List ℕ) (a b c : ℕ) → length xs ≤ length ys → IsBefore (xs ++ a ∷ []) (ys ++ b ∷ c ∷ rest)
shorter_before xs ys rest a b c h = inl (omega (arith, length-append xs (a ∷ []), length-append ys (b ∷ c ∷ rest)))
