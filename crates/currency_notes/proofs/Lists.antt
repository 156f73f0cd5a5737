-- Members of lists, as far as a loop has come.
use Rattle.std.proofs.Common.{◌≡◌, ◌≢◌, inl, inr, ℕ, zero, suc, ◌+◌, ◌<◌, ◌≤◌, Some, List, [], ◌∷◌, ◌++◌, length, get_or, take, drop, refl, sym, ap, subst, ◌∙◌, arith}
use Rattle.std.specs.Prelude.{slice_get, slice_set, ◌⊎◌}
use Rattle.std.proofs.lemmas.Bool.Decides.{eqb_tells}
use Rattle.std.proofs.lemmas.Option.{none-some, same_Some, slice_get-get_or, slice_get_within}
use Rattle.graph_core.specs.Paths.{Among, front, behind}
pub use Rattle.base_laws.proofs.Lists.{get_same as get_any}
pub use Rattle.graph_core.proofs.Among.{among_one, among_parts, at_among}

pub among_left : {A : Type 0} {a : A} (xs ys : List A) → Among a xs → Among a (xs ++ ys)
among_left [] ys there = elim there [ ]
among_left (x ∷ xs) ys front = front
among_left (x ∷ xs) ys (behind there) = behind (among_left xs ys there)

pub among_right : {A : Type 0} {a : A} (xs ys : List A) → Among a ys → Among a (xs ++ ys)
among_right [] ys there = there
among_right (x ∷ xs) ys there = behind (among_right xs ys there)

-- a member stands somewhere
pub among_at : {A : Type 0} {a : A} (xs : List A) → Among a xs → (k : ℕ) × (slice_get xs k ≡ Some a)
among_at [] there = elim there [ ]
among_at (x ∷ xs) front = (0, refl)
among_at (x ∷ xs) (behind there) = (let f = among_at xs there in (suc f.0, f.1))

-- what stands at an index is a member
pub get_among : {A : Type 0} (xs : List A) (k : ℕ) (a : A) → k < length xs → a ≡ get_or xs k a → Among a xs
get_among xs k a lt e = at_among xs k a (slice_get-get_or xs k a lt ∙ ap Some (sym e))

-- the same, read with any default
pub get_among_at : {A : Type 0} (xs : List A) (k : ℕ) (a d : A) → k < length xs → get_or xs k d ≡ a → Among a xs
get_among_at xs k a d lt e = at_among xs k a (slice_get-get_or xs k d lt ∙ ap Some e)

-- what is so of each of the first ones and of the next is so of each as far as that
pub each_next : {A : Type 0} (P : A → Type 0) (xs : List A) (k : ℕ) (x : A) → k < length xs → x ≡ get_or xs k x → ((a : A) → Among a (take k xs) → P a) → P x → (a : A) → Among a (take (suc k) xs) → P a
each_next P [] k x lt e all here a there = absurd (omega (arith, lt))
each_next P (y ∷ ys) zero x lt e all here a front = subst P e here
each_next P (y ∷ ys) zero x lt e all here a (behind there) = elim there [ ]
each_next P (y ∷ ys) (suc k) x lt e all here a front = all y front
each_next P (y ∷ ys) (suc k) x lt e all here a (behind there) = each_next P ys k x (omega (arith, lt)) e (λ b among. all b (behind among)) here a there

pub each_all : {A : Type 0} (P : A → Type 0) (xs : List A) (k : ℕ) → length xs ≤ k → ((a : A) → Among a (take k xs) → P a) → (a : A) → Among a xs → P a
each_all P [] k le all a there = elim there [ ]
each_all P (y ∷ ys) zero le all a there = absurd (omega (arith, le))
each_all P (y ∷ ys) (suc k) le all a front = all y front
each_all P (y ∷ ys) (suc k) le all a (behind there) = each_all P ys k (omega (arith, le)) (λ b among. all b (behind among)) a there

-- the same, where the next number is one more
pub each_more : {A : Type 0} (P : A → Type 0) (xs : List A) (k : ℕ) (x : A) → k < length xs → x ≡ get_or xs k x → ((a : A) → Among a (take k xs) → P a) → P x → (a : A) → Among a (take (k + 1) xs) → P a
each_more P xs k x lt e all here = (let one : suc k ≡ k + 1 = omega arith in subst (λ n. (a : _) → Among a (take n xs) → P a) one (each_next P xs k x lt e all here))

drop_next : {A : Type 0} (xs : List A) (k : ℕ) (x : A) → k < length xs → x ≡ get_or xs k x → drop k xs ≡ x ∷ drop (suc k) xs
drop_next [] k x lt e = absurd (omega (arith, lt))
drop_next (y ∷ ys) zero x lt e = ap (λ z. z ∷ ys) (sym e)
drop_next (y ∷ ys) (suc k) x lt e = drop_next ys k x (omega (arith, lt)) e

-- what is left is the next one and what is left behind it
pub drop_more : {A : Type 0} (xs : List A) (k : ℕ) (x : A) → k < length xs → x ≡ get_or xs k x → drop k xs ≡ x ∷ drop (k + 1) xs
drop_more xs k x lt e = (let one : suc k ≡ k + 1 = omega arith in subst (λ n. drop k xs ≡ x ∷ drop n xs) one (drop_next xs k x lt e))

-- nothing is left
pub drop_end : {A : Type 0} (xs : List A) (k : ℕ) → length xs ≤ k → drop k xs ≡ []
drop_end [] zero le = refl
drop_end [] (suc k) le = refl
drop_end (y ∷ ys) zero le = absurd (omega (arith, le))
drop_end (y ∷ ys) (suc k) le = drop_end ys k (omega (arith, le))

-- the first ones, and the next behind them
take_next : {A : Type 0} (xs : List A) (k : ℕ) (x : A) → k < length xs → x ≡ get_or xs k x → take (suc k) xs ≡ take k xs ++ (x ∷ [])
take_next [] k x lt e = absurd (omega (arith, lt))
take_next (y ∷ ys) zero x lt e = ap (λ z. z ∷ []) (sym e)
take_next (y ∷ ys) (suc k) x lt e = ap (λ zs. y ∷ zs) (take_next ys k x (omega (arith, lt)) e)

pub take_one_more : {A : Type 0} (xs : List A) (k : ℕ) (x : A) → k < length xs → x ≡ get_or xs k x → take (k + 1) xs ≡ take k xs ++ (x ∷ [])
take_one_more xs k x lt e = (let one : suc k ≡ k + 1 = omega arith in subst (λ n. take n xs ≡ take k xs ++ (x ∷ [])) one (take_next xs k x lt e))

pub take_whole : {A : Type 0} (xs : List A) (k : ℕ) → length xs ≤ k → take k xs ≡ xs
take_whole [] zero le = refl
take_whole [] (suc k) le = refl
take_whole (y ∷ ys) zero le = absurd (omega (arith, le))
take_whole (y ∷ ys) (suc k) le = ap (λ zs. y ∷ zs) (take_whole ys k (omega (arith, le)))

-- what stands where it was stored, and elsewhere
pub get_put_same : {A : Type 0} (xs : List A) (k : ℕ) (a : A) → k < length xs → slice_get (slice_set xs k a) k ≡ Some a
get_put_same [] k a lt = absurd (omega (arith, lt))
get_put_same (x ∷ xs) zero a lt = refl
get_put_same (x ∷ xs) (suc k) a lt = get_put_same xs k a (omega (arith, lt))

pub get_put_other : {A : Type 0} (xs : List A) (i : ℕ) (a : A) (k : ℕ) → k ≢ i → slice_get (slice_set xs i a) k ≡ slice_get xs k
get_put_other [] i a k other = refl
get_put_other (x ∷ xs) zero a zero other = absurd (other refl)
get_put_other (x ∷ xs) zero a (suc k) other = refl
get_put_other (x ∷ xs) (suc i) a zero other = refl
get_put_other (x ∷ xs) (suc i) a (suc k) other = get_put_other xs i a k (λ e. other (ap suc e))

-- what is so of what stands at each of the first places and at the next
pub at_more : {A : Type 0} (P : ℕ → A → Type 0) (xs : List A) (k : ℕ) (a : A) → k < length xs → a ≡ get_or xs k a → P k a → ((x : ℕ) (b : A) → x < k → slice_get xs x ≡ Some b → P x b) → (x : ℕ) (b : A) → x < k + 1 → slice_get xs x ≡ Some b → P x b
at_more P xs k a lt is here before x b small at = elim (eqb_tells x k) [
  | inl e ↦ (let same : a ≡ b = same_Some a b (sym (slice_get-get_or xs k a lt ∙ ap Some (sym is)) ∙ ap (λ n. slice_get xs n) (sym e.1) ∙ at) in subst (λ n. P n b) (sym e.1) (subst (λ c. P k c) same here))
  | inr e ↦ before x b (omega (arith, small, e.1)) at
]

pub at_all : {A : Type 0} (P : ℕ → A → Type 0) (xs : List A) (k : ℕ) → length xs ≤ k → ((x : ℕ) (b : A) → x < k → slice_get xs x ≡ Some b → P x b) → (x : ℕ) (b : A) → slice_get xs x ≡ Some b → P x b
at_all P xs k le each x b at = (let lt = slice_get_within xs x b at in each x b (omega (arith, le, lt)) at)

-- the same, read with any default
pub at_more_any : {A : Type 0} (P : ℕ → A → Type 0) (xs : List A) (k : ℕ) (d : A) → k < length xs → P k (get_or xs k d) → ((x : ℕ) (b : A) → x < k → slice_get xs x ≡ Some b → P x b) → (x : ℕ) (b : A) → x < k + 1 → slice_get xs x ≡ Some b → P x b
at_more_any P xs k d lt here before = at_more P xs k (get_or xs k d) lt (get_any xs k d (get_or xs k d) lt) here before

pub each_more_any : {A : Type 0} (P : A → Type 0) (xs : List A) (k : ℕ) (d : A) → k < length xs → ((a : A) → Among a (take k xs) → P a) → P (get_or xs k d) → (a : A) → Among a (take (k + 1) xs) → P a
each_more_any P xs k d lt all here = each_more P xs k (get_or xs k d) lt (get_any xs k d (get_or xs k d) lt) all here

pub drop_more_any : {A : Type 0} (xs : List A) (k : ℕ) (d : A) → k < length xs → drop k xs ≡ get_or xs k d ∷ drop (k + 1) xs
drop_more_any xs k d lt = drop_more xs k (get_or xs k d) lt (get_any xs k d (get_or xs k d) lt)

-- what stands in a list behind a store
pub set_cases : {A : Type 0} (xs : List A) (i : ℕ) (a : A) (k : ℕ) (b : A) → slice_get (slice_set xs i a) k ≡ Some b → ((k ≡ i) × (b ≡ a)) ⊎ ((k ≢ i) × (slice_get xs k ≡ Some b))
set_cases [] i a k b e = absurd (none-some b e)
set_cases (x ∷ xs) zero a zero b e = inl (refl, sym (same_Some a b e))
set_cases (x ∷ xs) zero a (suc k) b e = inr ((λ q. omega (arith, q)), e)
set_cases (x ∷ xs) (suc i) a zero b e = inr ((λ q. omega (arith, q)), e)
set_cases (x ∷ xs) (suc i) a (suc k) b e = elim (set_cases xs i a k b e) [ inl f ↦ inl (ap suc f.0, f.1) | inr f ↦ inr ((λ q. f.0 (omega (arith, q))), f.1) ]
