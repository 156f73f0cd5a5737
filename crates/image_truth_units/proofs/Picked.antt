-- The variables of a function that are scalars, and those that are in memory.
use Rattle.std.proofs.Common.{◌≡◌, ℕ, zero, suc, ◌+◌, ◌<◌, ◌≤◌, Option, Some, None, List, [], ◌∷◌, slice_get, refl, sym, ap, ◌∙◌, arith}
use Rattle.std.proofs.lemmas.Option.{none-some, same_Some}
use Rattle.c_places.specs.Places.{numbers_from}
use Rattle.graph_build_names.specs.Names.{Names, home_of, scalar_of, object_of, scalar_in, object_in}
use Rattle.graph_build_names.specs.declared.names.Home.{Home}
use Rattle.graph_build_names.specs.declared.names.Home.TheVariants as home
use Rattle.graph_build.specs.Units.{add_if_some, scalars_among, kept_among}

-- those of some numbers of which there is something
pub picked : (ℕ → Option ℕ) → List ℕ → List ℕ
picked of [] = []
picked of (x ∷ more) = add_if_some (of x) x (picked of more)

pub scalars_picked : (n : Names) (xs : List ℕ) → scalars_among n xs ≡ picked (scalar_of n) xs
unfolding picked
scalars_picked n [] = refl
scalars_picked n (x ∷ more) = ap (add_if_some (scalar_of n x) x) (scalars_picked n more)

pub kept_picked : (n : Names) (xs : List ℕ) → kept_among n xs ≡ picked (object_of n) xs
unfolding picked
kept_picked n [] = refl
kept_picked n (x ∷ more) = ap (add_if_some (object_of n x) x) (kept_picked n more)

-- one of them is one of the numbers, and there is something of it
pub record IsPicked (of : ℕ → Option ℕ) (first count x : ℕ) : Type 0 where
  pub low : first ≤ x
  pub high : x < first + count
  pub value : ℕ
  pub some : of x ≡ Some value

pub picked_at : (of : ℕ → Option ℕ) (first count k x : ℕ) → slice_get (picked of (numbers_from first count)) k ≡ Some x → IsPicked of first count x
unfolding picked
picked_at of first zero k x is = absurd (none-some x is)
picked_at of first (suc count) k x is = by_value (of first) refl k is (λ i at. picked_at of (first + 1) count i x at)
  where
    wider : IsPicked of (first + 1) count x → IsPicked of first (suc count) x
    wider one = let low = one.low in let high = one.high in record { low = omega (arith, low); high = omega (arith, high); value = one.value; some = one.some }

    by_value : (r : Option ℕ) → of first ≡ r → (k : ℕ) → slice_get (add_if_some r first (picked of (numbers_from (first + 1) count))) k ≡ Some x → ((i : ℕ) → slice_get (picked of (numbers_from (first + 1) count)) i ≡ Some x → IsPicked of (first + 1) count x) → IsPicked of first (suc count) x
    by_value None e k is later = wider (later k is)
    by_value (Some v) e zero is later = let same = same_Some first x is in record { low = omega (arith, same); high = omega (arith, same); value = v; some = ap of (sym same) ∙ e }
    by_value (Some v) e (suc k) is later = wider (later k is)

-- they ascend
pub picked_ascend : (of : ℕ → Option ℕ) (first count j k x y : ℕ) → j < k → slice_get (picked of (numbers_from first count)) j ≡ Some x → slice_get (picked of (numbers_from first count)) k ≡ Some y → x < y
unfolding picked
picked_ascend of first zero j k x y lt is at = absurd (none-some x is)
picked_ascend of first (suc count) j k x y lt is at = by_value (of first) j k lt is at (λ i. picked_at of (first + 1) count i y) (λ i l less. picked_ascend of (first + 1) count i l x y less)
  where
    by_value : (r : Option ℕ) (j k : ℕ) → j < k → slice_get (add_if_some r first (picked of (numbers_from (first + 1) count))) j ≡ Some x → slice_get (add_if_some r first (picked of (numbers_from (first + 1) count))) k ≡ Some y
        → ((i : ℕ) → slice_get (picked of (numbers_from (first + 1) count)) i ≡ Some y → IsPicked of (first + 1) count y)
        → ((i l : ℕ) → i < l → slice_get (picked of (numbers_from (first + 1) count)) i ≡ Some x → slice_get (picked of (numbers_from (first + 1) count)) l ≡ Some y → x < y) → x < y
    by_value None j k lt is at one later = later j k lt is at
    by_value (Some v) j zero lt is at one later = absurd (omega (arith, lt))
    by_value (Some v) zero (suc k) lt is at one later = let low = (one k at).low in let same = same_Some first x is in omega (arith, low, same)
    by_value (Some v) (suc j) (suc k) lt is at one later = later j k (omega (arith, lt)) is at

-- no variable is both
pub not_both : (n : Names) (x j k : ℕ) → scalar_of n x ≡ Some j → object_of n x ≡ Some k → ⊥
not_both n x j k scalar object = by_home (home_of n x) scalar object
  where
    by_home : (r : Option Home) → scalar_in r ≡ Some j → object_in r ≡ Some k → ⊥
    by_home None s o = none-some j s
    by_home (Some (home.Scalar i)) s o = none-some k o
    by_home (Some (home.Object i)) s o = none-some j s
