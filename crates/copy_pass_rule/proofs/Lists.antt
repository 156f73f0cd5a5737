-- Lists whose members are related one by one, and what is among lists.
use Rattle.std.proofs.Common.{◌≡◌, ℕ, zero, suc, Option, Some, None, List, [], ◌∷◌, ◌++◌, length, refl, arith}
use Rattle.std.specs.Prelude.{slice_get}
use Rattle.std.specs.List.{AllByRecursion}
use Rattle.event_runs.specs.Agreement.{Pairs}
use Rattle.graph_core.specs.Validity.{total}
use Rattle.graph_core.specs.Graphs.{Graph}
use Rattle.graph_core.specs.Paths.{Among, front, behind}
use Rattle.pass_law.specs.Kept.{EachFunction}

module _ {A B : Type 0} (R : A → B → Type 0) where
  -- They are as many.
  pub as_many : (xs : List A) (ys : List B) → Pairs R xs ys → length ys ≡ length xs
  as_many [] [] all = refl
  as_many [] (y ∷ ys) all = absurd all
  as_many (x ∷ xs) [] all = absurd all
  as_many (x ∷ xs) (y ∷ ys) all = omega (arith, as_many xs ys all.1)

  -- Where each counts as much as its other, all count as much.
  pub same_total : (count : A → ℕ) (other : B → ℕ) → ((x : A) (y : B) → R x y → other y ≡ count x) → (xs : List A) (ys : List B) → Pairs R xs ys → total other ys ≡ total count xs
  same_total count other same [] [] all = refl
  same_total count other same [] (y ∷ ys) all = absurd all
  same_total count other same (x ∷ xs) [] all = absurd all
  same_total count other same (x ∷ xs) (y ∷ ys) all = omega (arith, same x y all.0, same_total count other same xs ys all.1)

  -- What is so of each on the one side, and carries over to what is related to it, is so of each on the other.
  pub all_carried : (P : A → Type 0) (Q : B → Type 0) → ((x : A) (y : B) → R x y → P x → Q y) → (xs : List A) (ys : List B) → Pairs R xs ys → AllByRecursion P xs → AllByRecursion Q ys
  all_carried P Q carry [] [] all each = tt
  all_carried P Q carry [] (y ∷ ys) all each = absurd all
  all_carried P Q carry (x ∷ xs) [] all each = absurd all
  all_carried P Q carry (x ∷ xs) (y ∷ ys) all each = (carry x y all.0 each.0, all_carried P Q carry xs ys all.1 each.1)

  -- The same of what stands at a number, or of nothing where nothing does.
  pub carried_at : (P : Option A → Type 0) (Q : Option B → Type 0) → (P None → Q None) → ((x : A) (y : B) → R x y → P (Some x) → Q (Some y)) → (xs : List A) (ys : List B) → Pairs R xs ys → (n : ℕ) → P (slice_get xs n) → Q (slice_get ys n)
  carried_at P Q none some [] [] all n there = none there
  carried_at P Q none some [] (y ∷ ys) all n there = absurd all
  carried_at P Q none some (x ∷ xs) [] all n there = absurd all
  carried_at P Q none some (x ∷ xs) (y ∷ ys) all zero there = some x y all.0 there
  carried_at P Q none some (x ∷ xs) (y ∷ ys) all (suc n) there = carried_at P Q none some xs ys all.1 n there

  -- Lists of one length are related one by one, where those of one number are.
  pub numbered_pairs : (xs : List A) (ys : List B) → length ys ≡ length xs → ((n : ℕ) (x : A) (y : B) → slice_get xs n ≡ Some x → slice_get ys n ≡ Some y → R x y) → Pairs R xs ys
  numbered_pairs [] [] many each = tt
  numbered_pairs [] (y ∷ ys) many each = absurd (omega (arith, many))
  numbered_pairs (x ∷ xs) [] many each = absurd (omega (arith, many))
  numbered_pairs (x ∷ xs) (y ∷ ys) many each = (each 0 x y refl refl, numbered_pairs xs ys (omega (arith, many)) (λ n a b at there. each (suc n) a b at there))

-- Functions are related one by one, where each is related to what is made of it.
pub each_related : (IsMade R : Graph → Graph → Type 0) → ((g h : Graph) → IsMade g h → R g h) → (gs hs : List Graph) → EachFunction IsMade gs hs → Pairs R gs hs
each_related IsMade R related [] [] all = tt
each_related IsMade R related [] (h ∷ hs) all = absurd all
each_related IsMade R related (g ∷ gs) [] all = absurd all
each_related IsMade R related (g ∷ gs) (h ∷ hs) all = (related g h all.0, each_related IsMade R related gs hs all.1)

-- A member of the first of two lists is one of both.
pub among_left : {A : Type 0} (x : A) (xs ys : List A) → Among x xs → Among x (xs ++ ys)
among_left x [] ys among = elim among [ ]
among_left x (y ∷ xs) ys front = front
among_left x (y ∷ xs) ys (behind later) = behind (among_left x xs ys later)

-- The same of the second.
pub among_right : {A : Type 0} (x : A) (xs ys : List A) → Among x ys → Among x (xs ++ ys)
among_right x [] ys among = among
among_right x (y ∷ xs) ys among = behind (among_right x xs ys among)
