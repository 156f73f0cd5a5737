-- Lists by index.
use Rattle.std.proofs.Common.{◌≡◌, ◌≢◌, ℕ, zero, suc, ◌<◌, ◌⊎◌, inl, inr, List, [], ◌∷◌, ◌++◌, Some, refl, ap, map, length, replicate, get_or, arith, subst}
use Rattle.std.specs.Prelude.{slice_get}
use Rattle.std.specs.List.{All, Contains}
use Rattle.std.proofs.lemmas.Option.{get_or_from_slice_get, slice_get_within}
use Rattle.std.proofs.Math.ListN.{set}

-- what stands at a place of a list after a write
pub at_set : {X : Type 0} (xs : List X) (b j : ℕ) (z w : X) → slice_get (set xs b z) j ≡ Some w → ((j ≡ b) × (w ≡ z)) ⊎ ((j ≢ b) × (slice_get xs j ≡ Some w))
at_set [] b j z w e = cc
at_set (x ∷ xs) zero zero z w e = inl (refl, cc)
at_set (x ∷ xs) zero (suc j) z w e = inr (λ q. omega (arith, q), e)
at_set (x ∷ xs) (suc b) zero z w e = inr (λ q. omega (arith, q), e)
at_set (x ∷ xs) (suc b) (suc j) z w e = elim (at_set xs b j z w e) [ inl h ↦ inl (ap suc h.0, h.1) | inr h ↦ inr ((λ q. h.0 (omega (arith, q))), h.1) ]

-- what stands at a place of a list behind which one more was put
pub at_push : {X : Type 0} (xs : List X) (y : X) (j : ℕ) (w : X) → slice_get (xs ++ y ∷ []) j ≡ Some w → ((j ≡ length xs) × (w ≡ y)) ⊎ (slice_get xs j ≡ Some w)
at_push [] y zero w e = inl (refl, cc)
at_push [] y (suc j) w e = cc
at_push (x ∷ xs) y zero w e = inr e
at_push (x ∷ xs) y (suc j) w e = elim (at_push xs y j w e) [ inl h ↦ inl (ap suc h.0, h.1) | inr h ↦ inr h ]

pub push_before : {X : Type 0} (xs : List X) (y : X) (j : ℕ) → j < length xs → slice_get (xs ++ y ∷ []) j ≡ slice_get xs j
push_before [] y j lt = absurd (omega arith)
push_before (x ∷ xs) y zero lt = refl
push_before (x ∷ xs) y (suc j) lt = push_before xs y j (omega arith)

pub push_last : {X : Type 0} (xs : List X) (y : X) → slice_get (xs ++ y ∷ []) (length xs) ≡ Some y
push_last [] y = refl
push_last (x ∷ xs) y = push_last xs y

-- a place within a list has something
pub there : {X : Type 0} (xs : List X) (i : ℕ) → i < length xs → (x : X) × (slice_get xs i ≡ Some x)
there [] i h = absurd (omega arith)
there (x ∷ xs) zero h = (x, refl)
there (x ∷ xs) (suc i) h = there xs i (omega arith)

pub at_replicate : {X : Type 0} (n k : ℕ) (t x : X) → slice_get (replicate n t) k ≡ Some x → x ≡ t
at_replicate zero k t x e = cc
at_replicate (suc n) zero t x e = cc
at_replicate (suc n) (suc k) t x e = at_replicate n k t x e

module _ {X Y : Type 0} (f : X → Y) where
  pub from_map : (xs : List X) (y : Y) (k : ℕ) → k < length (map f xs) → get_or (map f xs) k y ≡ y → (x : X) × Contains xs x × (f x ≡ y)
  from_map [] y k lt e = absurd (omega arith)
  from_map (x ∷ xs) y zero lt e = (x, (0, omega arith, refl), e)
  from_map (x ∷ xs) y (suc k) lt e = let r = from_map xs y k (omega arith) e in (r.0, (suc r.1.0, omega (arith, r.1.1), r.1.2), r.2)

  pub into_map : (xs : List X) (x : X) (k : ℕ) → k < length xs → get_or xs k x ≡ x → Contains (map f xs) (f x)
  into_map [] x k lt e = absurd (omega arith)
  into_map (z ∷ xs) x zero lt e = (0, omega arith, ap f e)
  into_map (z ∷ xs) x (suc k) lt e = let r = into_map xs x k (omega arith) e in (suc r.0, omega (arith, r.1), r.2)

-- what is true of each element is true of the one at a place
pub All-at : {X : Type 0} (P : X → Type 0) (xs : List X) (i : ℕ) (x : X) → All P xs → slice_get xs i ≡ Some x → P x
All-at P xs i x all e = subst P (get_or_from_slice_get xs i x x e) (all i x (slice_get_within xs i x e))

pub map_through : {X Y Z : Type 0} (f : Y → Z) (h : X → Y) (xs : List X) → map f (map h xs) ≡ map (λ x. f (h x)) xs
map_through f h [] = refl
map_through f h (x ∷ xs) = ap (λ ys. f (h x) ∷ ys) (map_through f h xs)
