-- Members of lists, and lists whose members are related one by one.
use Rattle.std.proofs.Common.{◌≡◌, ◌≤◌, ℕ, zero, suc, Option, Some, None, List, [], ◌∷◌, ◌++◌, length, refl, subst, arith}
use Rattle.std.specs.Prelude.{slice_get}
use Rattle.std.specs.List.{AllByRecursion}
use Rattle.std.proofs.lemmas.Option.{none-some, same_Some}
use Rattle.event_runs.specs.Agreement.{Pairs}
use Rattle.graph_core.specs.Validity.{total}

module _ {A : Type 0} (P : A → Type 0) where
  -- What is so of all is so of the one at a position,
  pub all_at : (xs : List A) (n : ℕ) (x : A) → AllByRecursion P xs → slice_get xs n ≡ Some x → P x
  all_at [] n x all at = absurd (none-some x at)
  all_at (y ∷ xs) zero x all at = subst P (same_Some y x at) all.0
  all_at (y ∷ xs) (suc n) x all at = all_at xs n x all.1 at

  -- and of one with others before and behind.
  pub all_within : (xs : List A) (x : A) (ys : List A) → AllByRecursion P (xs ++ x ∷ ys) → P x
  all_within [] x ys all = all.0
  all_within (y ∷ xs) x ys all = all_within xs x ys all.1

module _ {A B : Type 0} (R : A → B → Type 0) where
  -- They are as many.
  pub as_many : (xs : List A) (ys : List B) → Pairs R xs ys → length ys ≡ length xs
  as_many [] [] all = refl
  as_many [] (y ∷ ys) all = absurd all
  as_many (x ∷ xs) [] all = absurd all
  as_many (x ∷ xs) (y ∷ ys) all = omega (arith, as_many xs ys all.1)

  -- Where each counts no more than its other, all count no more.
  pub less_total : (count : A → ℕ) (other : B → ℕ) → ((x : A) (y : B) → R x y → other y ≤ count x) → (xs : List A) (ys : List B) → Pairs R xs ys → total other ys ≤ total count xs
  less_total count other less [] [] all = omega (arith)
  less_total count other less [] (y ∷ ys) all = absurd all
  less_total count other less (x ∷ xs) [] all = absurd all
  less_total count other less (x ∷ xs) (y ∷ ys) all = omega (arith, less x y all.0, less_total count other less xs ys all.1)

  -- What is so of each on the one side, and carries over to what is related to it, is so of each on the other.
  pub all_carried : (P : A → Type 0) (Q : B → Type 0) → ((x : A) (y : B) → R x y → P x → Q y) → (xs : List A) (ys : List B) → Pairs R xs ys → AllByRecursion P xs → AllByRecursion Q ys
  all_carried P Q carry [] [] all each = tt
  all_carried P Q carry [] (y ∷ ys) all each = absurd all
  all_carried P Q carry (x ∷ xs) [] all each = absurd all
  all_carried P Q carry (x ∷ xs) (y ∷ ys) all each = (carry x y all.0 each.0, all_carried P Q carry xs ys all.1 each.1)

  -- The same of what stands at a number, or of nothing where nothing does.
  pub carried_at : (P : Option A → Type 0) (Q : Option B → Type 0) → (P None → Q None) → ((x : A) (y : B) → R x y → P (Some x) → Q (Some y)) → (xs : List A) (ys : List B) → Pairs R xs ys → (n : ℕ) → P (slice_get xs n) → Q (slice_get ys n)
  carried_at P Q none some [] [] all n there = none there
  carried_at P Q none some [] (y ∷ ys) all n there = absurd all
  carried_at P Q none some (x ∷ xs) [] all n there = absurd all
  carried_at P Q none some (x ∷ xs) (y ∷ ys) all zero there = some x y all.0 there
  carried_at P Q none some (x ∷ xs) (y ∷ ys) all (suc n) there = carried_at P Q none some xs ys all.1 n there

  -- Lists of one length are related one by one, where those of one number are.
  pub numbered_pairs : (xs : List A) (ys : List B) → length ys ≡ length xs → ((n : ℕ) (x : A) (y : B) → slice_get xs n ≡ Some x → slice_get ys n ≡ Some y → R x y) → Pairs R xs ys
  numbered_pairs [] [] many each = tt
  numbered_pairs [] (y ∷ ys) many each = absurd (omega (arith, many))
  numbered_pairs (x ∷ xs) [] many each = absurd (omega (arith, many))
  numbered_pairs (x ∷ xs) (y ∷ ys) many each = (each 0 x y refl refl, numbered_pairs xs ys (omega (arith, many)) (λ n a b at there. each (suc n) a b at there))
