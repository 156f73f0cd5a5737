-- Members of lists, and lists whose members are related one by one.
use Rattle.std.proofs.Common.{◌≡◌, ℕ, zero, suc, ◌+◌, Option, Some, None, List, [], ◌∷◌, ◌++◌, length, refl, ap, subst, arith}
use Rattle.std.specs.Prelude.{slice_get}
use Rattle.std.specs.List.{AllByRecursion}
use Rattle.std.proofs.lemmas.Option.{none-some, same_Some}
use Rattle.event_runs.specs.Agreement.{Pairs}
use Rattle.graph_core.specs.Paths.{Among, front, behind}
use Rattle.graph_core.specs.Validity.{total}
pub use Rattle.base_laws.proofs.Lists.{all_so}

module _ {A : Type 0} where
  -- A member of the first of two lists is one of both.
  pub among_left : (x : A) (xs ys : List A) → Among x xs → Among x (xs ++ ys)
  among_left x [] ys among = elim among [ ]
  among_left x (y ∷ xs) ys front = front
  among_left x (y ∷ xs) ys (behind later) = behind (among_left x xs ys later)

  -- The same of the second.
  pub among_right : (x : A) (xs ys : List A) → Among x ys → Among x (xs ++ ys)
  among_right x [] ys among = among
  among_right x (y ∷ xs) ys among = behind (among_right x xs ys among)

  -- What stands in a list stands at the same number with others behind,
  pub at_left : (xs ys : List A) (k : ℕ) (P : Option A → Type 0) → (P None → ⊥) → P (slice_get xs k) → P (slice_get (xs ++ ys) k)
  at_left [] ys k P none there = absurd (none there)
  at_left (z ∷ xs) ys zero P none there = there
  at_left (z ∷ xs) ys (suc k) P none there = at_left xs ys k P none there

  -- and behind others at one that is greater by their count.
  pub at_right : (xs ys : List A) (j k : ℕ) → k ≡ length xs + j → slice_get (xs ++ ys) k ≡ slice_get ys j
  at_right [] ys j k is = ap (slice_get ys) (here is)
    where
      here : k ≡ 0 + j → k ≡ j
      here q = omega (arith, q)
  at_right (z ∷ xs) ys j zero is = absurd (omega (arith, is))
  at_right (z ∷ xs) ys j (suc k) is = at_right xs ys j k (omega (arith, is))

  -- What two lists count together.
  pub total_parts : (count : A → ℕ) (xs ys : List A) → total count (xs ++ ys) ≡ total count xs + total count ys
  total_parts count [] ys = omega arith
  total_parts count (x ∷ xs) ys = (let rest = total_parts count xs ys in omega (arith, rest))

module _ {A : Type 0} (P : A → Type 0) where
  -- What is so of all is so of each of them.
  pub each_among : (xs : List A) (x : A) → Among x xs → AllByRecursion P xs → P x
  each_among [] x among all = elim among [ ]
  each_among (y ∷ xs) _ front all = all.0
  each_among (y ∷ xs) x (behind later) all = each_among xs x later all.1

  -- So it is of the one at a number.
  pub all_at : (xs : List A) (n : ℕ) (x : A) → AllByRecursion P xs → slice_get xs n ≡ Some x → P x
  all_at [] n x all at = absurd (none-some x at)
  all_at (y ∷ xs) zero x all at = subst P (same_Some y x at) all.0
  all_at (y ∷ xs) (suc n) x all at = all_at xs n x all.1 at

  -- What is so of all of two lists is so of all of both.
  pub all_of_both : (xs ys : List A) → AllByRecursion P xs → AllByRecursion P ys → AllByRecursion P (xs ++ ys)
  all_of_both [] ys left right = right
  all_of_both (x ∷ xs) ys left right = (left.0, all_of_both xs ys left.1 right)

  -- What is so of all of both is so of all of the second.
  pub all_behind : (xs ys : List A) → AllByRecursion P (xs ++ ys) → AllByRecursion P ys
  all_behind [] ys all = all
  all_behind (x ∷ xs) ys all = all_behind xs ys all.1

module _ {A B : Type 0} (R : A → B → Type 0) where
  -- They are as many.
  pub as_many : (xs : List A) (ys : List B) → Pairs R xs ys → length ys ≡ length xs
  as_many [] [] all = refl
  as_many [] (y ∷ ys) all = absurd all
  as_many (x ∷ xs) [] all = absurd all
  as_many (x ∷ xs) (y ∷ ys) all = omega (arith, as_many xs ys all.1)

  -- Where each counts as much as its other, all count as much.
  pub same_total : (count : A → ℕ) (other : B → ℕ) → ((x : A) (y : B) → R x y → other y ≡ count x) → (xs : List A) (ys : List B) → Pairs R xs ys → total other ys ≡ total count xs
  same_total count other same [] [] all = refl
  same_total count other same [] (y ∷ ys) all = absurd all
  same_total count other same (x ∷ xs) [] all = absurd all
  same_total count other same (x ∷ xs) (y ∷ ys) all = omega (arith, same x y all.0, same_total count other same xs ys all.1)

  -- What is so of each on the one side, and carries over to what is related to it, is so of each on the other.
  pub all_carried : (P : A → Type 0) (Q : B → Type 0) → ((x : A) (y : B) → R x y → P x → Q y) → (xs : List A) (ys : List B) → Pairs R xs ys → AllByRecursion P xs → AllByRecursion Q ys
  all_carried P Q carry [] [] all each = tt
  all_carried P Q carry [] (y ∷ ys) all each = absurd all
  all_carried P Q carry (x ∷ xs) [] all each = absurd all
  all_carried P Q carry (x ∷ xs) (y ∷ ys) all each = (carry x y all.0 each.0, all_carried P Q carry xs ys all.1 each.1)

  -- The same of what stands at a number, or of nothing where nothing does.
  pub carried_at : (P : Option A → Type 0) (Q : Option B → Type 0) → (P None → Q None) → ((x : A) (y : B) → R x y → P (Some x) → Q (Some y)) → (xs : List A) (ys : List B) → Pairs R xs ys → (n : ℕ) → P (slice_get xs n) → Q (slice_get ys n)
  carried_at P Q none some [] [] all n there = none there
  carried_at P Q none some [] (y ∷ ys) all n there = absurd all
  carried_at P Q none some (x ∷ xs) [] all n there = absurd all
  carried_at P Q none some (x ∷ xs) (y ∷ ys) all zero there = some x y all.0 there
  carried_at P Q none some (x ∷ xs) (y ∷ ys) all (suc n) there = carried_at P Q none some xs ys all.1 n there
