-- Members of lists, and lists that are gone through together.
use Rattle.std.proofs.Common.{◌≡◌, ℕ, zero, suc, ◌⊎◌, inl, inr, Some, None, List, [], ◌∷◌, length, refl, arith}
use Rattle.std.specs.Prelude.{slice_get}
use Rattle.graph_core.specs.Graphs.{Graph}
use Rattle.pass_law.specs.Kept.{EachFunction}
pub use Rattle.base_laws.proofs.Lists.{all_at, all_within}
pub use Rattle.graph_core.proofs.Among.{among_left, among_right, one_of_all as all_among}

-- By one number either both lists have something, or neither has.
abbrev pub AtBoth : {A B : Type 0} (IsMade : A → B → Type 0) (xs : List A) (ys : List B) (n : ℕ) → Type 0
AtBoth {A = A} {B = B} IsMade xs ys n =
    ((slice_get xs n ≡ None) × (slice_get ys n ≡ None)) ⊎ ((x : A) × (y : B) × (slice_get xs n ≡ Some x) × (slice_get ys n ≡ Some y) × IsMade x y)

-- So it is with lists of one length.
pub at_both : {A B : Type 0} (xs : List A) (ys : List B) (n : ℕ) → length ys ≡ length xs → AtBoth (λ x y. Unit {0}) xs ys n
at_both [] [] n long = inl (refl, refl)
at_both [] (y ∷ ys) n long = absurd (omega (arith, long))
at_both (x ∷ xs) [] n long = absurd (omega (arith, long))
at_both (x ∷ xs) (y ∷ ys) zero long = inr (x, y, refl, refl, tt)
at_both (x ∷ xs) (y ∷ ys) (suc n) long = at_both xs ys n (omega (arith, long))

-- So it is with functions each of which is made of the one before.
pub each_at : (IsMade : Graph → Graph → Type 0) (gs hs : List Graph) (n : ℕ) → EachFunction IsMade gs hs → AtBoth IsMade gs hs n
each_at IsMade [] [] n all = inl (refl, refl)
each_at IsMade [] (h ∷ hs) n all = absurd all
each_at IsMade (g ∷ gs) [] n all = absurd all
each_at IsMade (g ∷ gs) (h ∷ hs) zero all = inr (g, h, refl, refl, all.0)
each_at IsMade (g ∷ gs) (h ∷ hs) (suc n) all = each_at IsMade gs hs n all.1

-- What is made in two ways is made in both.
pub each_of_both : (IsMade IsSaid : Graph → Graph → Type 0) (gs hs : List Graph) → EachFunction IsMade gs hs → EachFunction IsSaid gs hs → EachFunction (λ g h. IsMade g h × IsSaid g h) gs hs
each_of_both IsMade IsSaid [] [] all both = tt
each_of_both IsMade IsSaid [] (h ∷ hs) all both = absurd all
each_of_both IsMade IsSaid (g ∷ gs) [] all both = absurd all
each_of_both IsMade IsSaid (g ∷ gs) (h ∷ hs) all both = ((all.0, both.0), each_of_both IsMade IsSaid gs hs all.1 both.1)
