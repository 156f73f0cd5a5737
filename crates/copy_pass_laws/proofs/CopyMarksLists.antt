-- Lists that are related one by one, and what is among lists.
use Rattle.std.proofs.Common.{◌≡◌, ℕ, zero, suc, Some, List, [], ◌∷◌, ◌++◌, refl, ap, subst}
use Rattle.std.specs.Prelude.{slice_get}
use Rattle.std.proofs.lemmas.Option.{none-some, same_Some}
use Rattle.event_runs.specs.Agreement.{Pairs}
use Rattle.graph_core.specs.Paths.{Among, front, behind}
use Rattle.copy_pass_rule.proofs.Lists.{among_left, among_right}

module _ {A B : Type 0} (R : A → B → Type 0) where
  -- What is related to the element of a number.
  pub pairs_after : (xs : List A) (ys : List B) → Pairs R xs ys → (n : ℕ) (x : A) → slice_get xs n ≡ Some x → (y : B) × (slice_get ys n ≡ Some y) × R x y
  pairs_after [] ys all n x at = absurd (none-some x at)
  pairs_after (a ∷ xs) [] all n x at = absurd all
  pairs_after (a ∷ xs) (b ∷ ys) all zero x at = let same : a ≡ x = same_Some a x at in (b, refl, subst (λ z. R z b) same all.0)
  pairs_after (a ∷ xs) (b ∷ ys) all (suc n) x at = pairs_after xs ys all.1 n x at

  -- What is so related to the element of a number of the second list.
  pub pairs_before : (xs : List A) (ys : List B) → Pairs R xs ys → (n : ℕ) (y : B) → slice_get ys n ≡ Some y → (x : A) × (slice_get xs n ≡ Some x) × R x y
  pairs_before [] [] all n y at = absurd (none-some y at)
  pairs_before [] (b ∷ ys) all n y at = absurd all
  pairs_before (a ∷ xs) [] all n y at = absurd all
  pairs_before (a ∷ xs) (b ∷ ys) all zero y at = let same : b ≡ y = same_Some b y at in (a, refl, subst (λ z. R a z) same all.0)
  pairs_before (a ∷ xs) (b ∷ ys) all (suc n) y at = pairs_before xs ys all.1 n y at

  -- Of a list that is related to another, parted at an element, what is related to its parts.
  pub record PairsAt (xs : List A) (earlier : List B) (y : B) (later : List B) : Type 0 where
    pub before : List A
    pub it : A
    pub behind_it : List A
    pub is : xs ≡ before ++ it ∷ behind_it
    pub in_front : Pairs R before earlier
    pub alike : R it y
    pub rest : Pairs R behind_it later

  -- Such a list is parted so.
  pub pairs_at : (xs : List A) (earlier : List B) (y : B) (later : List B) → Pairs R xs (earlier ++ y ∷ later) → PairsAt xs earlier y later
  pairs_at [] [] y later all = absurd all
  pairs_at [] (z ∷ earlier) y later all = absurd all
  pairs_at (x ∷ xs) [] y later all = record { before = []; it = x; behind_it = xs; is = refl; in_front = tt; alike = all.0; rest = all.1 }
  pairs_at (x ∷ xs) (z ∷ earlier) y later all =
      let s = pairs_at xs earlier y later all.1 in
      record { before = x ∷ s.before; it = s.it; behind_it = s.behind_it; is = ap (λ l. x ∷ l) s.is; in_front = (all.0, s.in_front); alike = s.alike; rest = s.rest }

-- Pairs that are so related are otherwise related, where the one follows from the other.
pub pairs_so : {A B : Type 0} (R S : A → B → Type 0) → ((x : A) (y : B) → R x y → S x y) → (xs : List A) (ys : List B) → Pairs R xs ys → Pairs S xs ys
pairs_so R S so [] [] all = tt
pairs_so R S so [] (y ∷ ys) all = absurd all
pairs_so R S so (x ∷ xs) [] all = absurd all
pairs_so R S so (x ∷ xs) (y ∷ ys) all = (so x y all.0, pairs_so R S so xs ys all.1)

-- Pairs the other way round.
pub pairs_turned : {A : Type 0} (R : A → A → Type 0) → ((x y : A) → R x y → R y x) → (xs ys : List A) → Pairs R xs ys → Pairs R ys xs
pairs_turned R turned [] [] all = tt
pairs_turned R turned [] (y ∷ ys) all = absurd all
pairs_turned R turned (x ∷ xs) [] all = absurd all
pairs_turned R turned (x ∷ xs) (y ∷ ys) all = (turned x y all.0, pairs_turned R turned xs ys all.1)

-- What is among two lists is among two others, where it is among the one or the other of these.
pub among_both : {A : Type 0} (a : A) (ws xs ys zs : List A) → (Among a ws → Among a ys) → (Among a xs → Among a zs) → Among a (ws ++ xs) → Among a (ys ++ zs)
among_both a [] xs ys zs one other m = among_right a ys zs (other m)
among_both a (_ ∷ ws) xs ys zs one other front = among_left a ys zs (one front)
among_both a (w ∷ ws) xs ys zs one other (behind m) = among_both a ws xs ys zs (λ k. one (behind k)) other m
