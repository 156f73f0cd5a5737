-- What is among lists, and at their numbers.
use Rattle.std.proofs.Common.{◌≡◌, ◌⊎◌, inl, inr, ℕ, zero, suc, ◌+◌, Some, List, [], ◌∷◌, length, refl, subst, arith}
use Rattle.std.specs.Prelude.{slice_get}
use Rattle.std.specs.List.{AllByRecursion}
use Rattle.std.proofs.lemmas.Option.{none-some, same_Some}
use Rattle.event_runs.specs.Agreement.{Pairs}
use Rattle.graph_core.specs.Paths.{Among, front, behind}
pub use Rattle.graph_core.proofs.Among.{among_cases as among_parts, among_left, among_right, at_among}

-- What is so of each of a list is so of one among it.
pub each_among : {A : Type 0} (P : A → Type 0) (xs : List A) (a : A) → Among a xs → AllByRecursion P xs → P a
each_among P [] a among all = elim among [ ]
each_among P (_ ∷ xs) a front all = all.0
each_among P (x ∷ xs) a (behind later) all = each_among P xs a later all.1

-- There is an element at a number, or the number is behind all.
pub inside_or_behind : {A : Type 0} (xs : List A) (n : ℕ) → ((x : A) × (slice_get xs n ≡ Some x)) ⊎ ((k : ℕ) × (n ≡ length xs + k))
inside_or_behind [] n = inr (n, all n)
  where
    all : (k : ℕ) → k ≡ 0 + k
    all k = omega (arith)
inside_or_behind (x ∷ xs) zero = inl (x, refl)
inside_or_behind (x ∷ xs) (suc n) = elim (inside_or_behind xs n) [ inl at ↦ inl at | inr over ↦ inr (over.0, one_more over.0 over.1) ]
  where
    one_more : (k : ℕ) → n ≡ length xs + k → suc n ≡ length (x ∷ xs) + k
    one_more k is = omega (arith, is)

-- What is so related to the element of a number of the second list.
pub pairs_before : {A B : Type 0} (R : A → B → Type 0) (xs : List A) (ys : List B) → Pairs R xs ys → (n : ℕ) (y : B) → slice_get ys n ≡ Some y → (x : A) × (slice_get xs n ≡ Some x) × R x y
pairs_before R [] [] all n y at = absurd (none-some y at)
pairs_before R [] (b ∷ ys) all n y at = absurd all
pairs_before R (a ∷ xs) [] all n y at = absurd all
pairs_before R (a ∷ xs) (b ∷ ys) all zero y at = (let same : b ≡ y = same_Some b y at in (a, refl, subst (λ z. R a z) same all.0))
pairs_before R (a ∷ xs) (b ∷ ys) all (suc n) y at = pairs_before R xs ys all.1 n y at

-- Pairs that are so related are otherwise related, where the one follows from the other.
pub pairs_so : {A B : Type 0} (R S : A → B → Type 0) → ((x : A) (y : B) → R x y → S x y) → (xs : List A) (ys : List B) → Pairs R xs ys → Pairs S xs ys
pairs_so R S so [] [] all = tt
pairs_so R S so [] (y ∷ ys) all = absurd all
pairs_so R S so (x ∷ xs) [] all = absurd all
pairs_so R S so (x ∷ xs) (y ∷ ys) all = (so x y all.0, pairs_so R S so xs ys all.1)
