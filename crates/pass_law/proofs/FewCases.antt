-- How many elements a list has at most, where each has a key and those of one key are few.
use Rattle.std.proofs.Common.{◌≡◌, ◌≢◌, ℕ, zero, suc, ◌+◌, ◌-◌, ◌<◌, ◌≤◌, Some, List, [], ◌∷◌, length, get_or, refl, arith}
use Rattle.std.specs.Prelude.{slice_get, ⊤}
use Rattle.std.specs.List.{AllByRecursion, AllPairs}
use Rattle.std.proofs.lemmas.List.Elements.{recursion_from_All}
use Rattle.graph_core.specs.Validity.{total}
use Rattle.base_laws.proofs.Lists.{all_so}
use Rattle.pass_law.specs.Changes.{AreAll}
use Rattle.pass_law.proofs.Adding.{stands_in}

module _ {A : Type 0} where
  -- no two of these are the same
  abbrev pub AreApart : List A → Type 0
  AreApart [] = ⊤
  AreApart (a ∷ more) = AllByRecursion (λ b. a ≢ b) more × AreApart more

  -- So it is where each stands once.
  pub apart_from_pairs : (all : List A) → AllPairs (λ a b. a ≢ b) all → AreApart all
  apart_from_pairs [] once = tt
  apart_from_pairs (a ∷ all) once = (
    recursion_from_All (λ b. a ≢ b) all (λ k d within. once 0 (suc k) d (omega arith) (omega (arith, within))),
    apart_from_pairs all (λ i j d less within. once (suc i) (suc j) d (omega (arith, less)) (omega (arith, within))),
  )

  -- A list that has all that are so has no other, and none of them twice.
  pub all_apart : (IsOne : A → Type 0) (all : List A) → AreAll IsOne all → AllByRecursion IsOne all × AreApart all
  all_apart IsOne all are = (recursion_from_All IsOne all (λ k d within. are.only (get_or all k d) (stands_in all k d within)), apart_from_pairs all are.once)

  -- Elements of the first key, and those of a later one.
  record Split (P : A → Type 0) (key : A → ℕ) (all : List A) : Type 1 where
    first : List A
    later : List A
    first_are : AllByRecursion (λ a. P a × (key a ≡ 0)) first
    later_are : AllByRecursion (λ a. P a × (k : ℕ) × (key a ≡ suc k)) later
    first_apart : AreApart first
    later_apart : AreApart later
    counted : length all ≡ length first + length later
    kept : (Q : A → Type 0) → AllByRecursion Q all → AllByRecursion Q first × AllByRecursion Q later

  -- one element more
  one_more : (P : A → Type 0) (key : A → ℕ) (a : A) (all : List A) → P a → AllByRecursion (λ b. a ≢ b) all → Split P key all → Split P key (a ∷ all)
  one_more P key a all is other s = by_key (key a) refl
    where
      by_key : (k : ℕ) → key a ≡ k → Split P key (a ∷ all)
      by_key zero at = record {
        first = a ∷ s.first;
        later = s.later;
        first_are = ((is, at), s.first_are);
        later_are = s.later_are;
        first_apart = ((s.kept (λ b. a ≢ b) other).0, s.first_apart);
        later_apart = s.later_apart;
        counted = (let same = s.counted in omega (arith, same));
        kept = λ Q each. (let more = s.kept Q each.1 in ((each.0, more.0), more.1));
      }
      by_key (suc k) at = record {
        first = s.first;
        later = a ∷ s.later;
        first_are = s.first_are;
        later_are = ((is, k, at), s.later_are);
        first_apart = s.first_apart;
        later_apart = ((s.kept (λ b. a ≢ b) other).1, s.later_apart);
        counted = (let same = s.counted in omega (arith, same));
        kept = λ Q each. (let more = s.kept Q each.1 in (more.0, (each.0, more.1)));
      }

  -- all of them
  split : (P : A → Type 0) (key : A → ℕ) (all : List A) → AllByRecursion P all → AreApart all → Split P key all
  split P key [] are apart = record { first = []; later = []; first_are = tt; later_are = tt; first_apart = tt; later_apart = tt; counted = omega arith; kept = λ Q each. (tt, tt) }
  split P key (a ∷ all) are apart = one_more P key a all are.0 apart.0 (split P key all are.1 apart.1)

  -- Two of which no two are the same, and all are this one, are one at most.
  pub one_at_most : (a : A) (all : List A) → AllByRecursion (λ b. a ≡ b) all → AreApart (a ∷ all) → length (a ∷ all) ≤ 1
  one_at_most a [] same apart = omega arith
  one_at_most a (b ∷ all) same apart = absurd (apart.0.0 same.0)

-- FEW BY KEY: where the keys of elements are numbers of a list, and those of one key are no more than what stands there weighs, all are no more than the list weighs.
pub few_by_key : {A B : Type 0} (weight : B → ℕ) (xs : List B) (key : A → ℕ) (P : A → Type 0) → ((a : A) → P a → key a < length xs)
    → ((k : ℕ) (b : B) → slice_get xs k ≡ Some b → (part : List A) → AllByRecursion (λ a. P a × (key a ≡ k)) part → AreApart part → length part ≤ weight b)
    → (all : List A) → AllByRecursion P all → AreApart all → length all ≤ total weight xs
few_by_key weight [] key P inside each [] are apart = omega arith
few_by_key weight [] key P inside each (a ∷ all) are apart = (let none = inside a are.0 in absurd (omega (arith, none)))
few_by_key {A} weight (x ∷ xs) key P inside each all are apart =
    let s = split P key all are apart in
    let first = each 0 x refl s.first s.first_are s.first_apart in
    let later = few_by_key weight xs (λ a. key a - 1) (λ a. P a × (k : ℕ) × (key a ≡ suc k)) (λ a is. (let less = inside a is.0 in let more = is.2 in omega (arith, less, more)))
    (λ k b at part these no_two. each (suc k) b at part (all_so (λ a. (P a × (m : ℕ) × (key a ≡ suc m)) × (key a - 1 ≡ k)) (λ a. P a × (key a ≡ suc k)) (λ a is. (is.0.0, (let low = is.0.2 in let same = is.1 in omega (arith, low, same)))) part these) no_two)
    s.later s.later_are s.later_apart in
    let whole = s.counted in
    omega (arith, first, later, whole)
