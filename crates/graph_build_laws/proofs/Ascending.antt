-- Places that ascend in the text are numbered by where they stand among them.
use Rattle.std.proofs.Common.{◌≡◌, ℕ, zero, suc, ◌+◌, ◌≤◌, ◌<◌, Bool, true, false, Some, List, [], ◌∷◌, ◌++◌, length, slice_get, refl, sym, ap, ◌∙◌, subst, arith, if◌then◌else◌}
use Rattle.std.specs.Prelude.{nat_lt}
use Rattle.std.proofs.lemmas.List.{append_assoc}
use Rattle.c_tree.specs.Programs.{TypedFunctionTree}
use Rattle.c_places.specs.Places.{Place, places_of_function, places_of_functions, count_before, place_number_at}
use Rattle.base_laws.proofs.Numbers.{less as is_before, not_before}
use Rattle.base_laws.proofs.Options.{none_is, some_same}

-- each place stands behind the one before it, the first one behind a position
abbrev pub Ascend : ℕ → List Place → Type 0
Ascend last [] = Unit {0}
Ascend last (q ∷ more) = (last < q.spot.at) × Ascend q.spot.at more

-- the places of a program do
abbrev pub AllAscend : List Place → Type 0
AllAscend [] = Unit {0}
AllAscend (q ∷ more) = Ascend q.spot.at more

counted_none : (at last : ℕ) (all : List Place) → at ≤ last → Ascend last all → count_before at all ≡ 0
counted_none at last [] h k = refl
counted_none at last (q ∷ more) h k = go (nat_lt q.spot.at at) (not_before q.spot.at at (omega (arith, h, k.0))) (counted_none at q.spot.at more (omega (arith, h, k.0)) k.1)
  where
    go : (b : Bool) → b ≡ false → count_before at more ≡ 0 → (if b then count_before at more + 1 else count_before at more) ≡ 0
    go true e c = cc
    go false e c = c

-- what stands before another place
before_it : (last : ℕ) (xs ys : List Place) (q : Place) → Ascend last (xs ++ q ∷ ys) → last < q.spot.at
before_it last [] ys q h = h.0
before_it last (x ∷ xs) ys q h = omega (arith, h.0, before_it x.spot.at xs ys q h.1)

counted_behind : (last : ℕ) (xs ys : List Place) (q : Place) → Ascend last (xs ++ q ∷ ys) → count_before q.spot.at (xs ++ q ∷ ys) ≡ length xs
counted_behind last [] ys q h = go (nat_lt q.spot.at q.spot.at) (not_before q.spot.at q.spot.at (omega arith)) (counted_none q.spot.at q.spot.at ys (omega arith) h.1)
  where
    go : (b : Bool) → b ≡ false → count_before q.spot.at ys ≡ 0 → (if b then count_before q.spot.at ys + 1 else count_before q.spot.at ys) ≡ 0
    go true e c = cc
    go false e c = c
counted_behind last (x ∷ xs) ys q h = go (nat_lt x.spot.at q.spot.at) (is_before x.spot.at q.spot.at (before_it x.spot.at xs ys q h.1)) (counted_behind x.spot.at xs ys q h.1)
  where
    go : (b : Bool) → b ≡ true → count_before q.spot.at (xs ++ q ∷ ys) ≡ length xs → (if b then count_before q.spot.at (xs ++ q ∷ ys) + 1 else count_before q.spot.at (xs ++ q ∷ ys)) ≡ suc (length xs)
    go true e c = omega (arith, c)
    go false e c = cc

counted_all : (xs ys : List Place) (q : Place) → AllAscend (xs ++ q ∷ ys) → count_before q.spot.at (xs ++ q ∷ ys) ≡ length xs
counted_all [] ys q h = go (nat_lt q.spot.at q.spot.at) (not_before q.spot.at q.spot.at (omega arith)) (counted_none q.spot.at q.spot.at ys (omega arith) h)
  where
    go : (b : Bool) → b ≡ false → count_before q.spot.at ys ≡ 0 → (if b then count_before q.spot.at ys + 1 else count_before q.spot.at ys) ≡ 0
    go true e c = cc
    go false e c = c
counted_all (x ∷ xs) ys q h = go (nat_lt x.spot.at q.spot.at) (is_before x.spot.at q.spot.at (before_it x.spot.at xs ys q h)) (counted_behind x.spot.at xs ys q h)
  where
    go : (b : Bool) → b ≡ true → count_before q.spot.at (xs ++ q ∷ ys) ≡ length xs → (if b then count_before q.spot.at (xs ++ q ∷ ys) + 1 else count_before q.spot.at (xs ++ q ∷ ys)) ≡ suc (length xs)
    go true e c = omega (arith, c)
    go false e c = cc

-- a place of a list stands behind so many, and before others
pub record Split (all : List Place) (k : ℕ) (q : Place) : Type 0 where
  pub before : List Place
  pub behind : List Place
  pub is : all ≡ before ++ q ∷ behind
  pub many : length before ≡ k

pub split_at : (all : List Place) (k : ℕ) (q : Place) → slice_get all k ≡ Some q → Split all k q
split_at [] k q e = absurd (none_is e)
split_at (x ∷ all) zero q e = record { before = []; behind = all; is = ap (λ y. y ∷ all) (some_same e); many = refl }
split_at (x ∷ all) (suc k) q e = let s = split_at all k q e in record { before = x ∷ s.before; behind = s.behind; is = ap (λ (l : List Place). x ∷ l) s.is; many = ap suc s.many }

-- The places of a program are numbered from 1.
pub numbered_in : (all : List Place) → AllAscend all → (k : ℕ) (q : Place) → slice_get all k ≡ Some q → place_number_at all q.spot.at ≡ k + 1
numbered_in all h k q e =
    let s = split_at all k q e in
    let c = counted_all s.before s.behind q (subst AllAscend s.is h) in
    omega (arith, subst (λ (l : List Place). count_before q.spot.at l ≡ length s.before) (sym s.is) c, s.many)

-- The places of a function stand together among those of the program.
pub record Among' (all : List Place) (own : List Place) : Type 0 where
  pub before : List Place
  pub behind : List Place
  pub is : all ≡ before ++ (own ++ behind)

pub places_within : (m : ℕ) (fs : List TypedFunctionTree) (k : ℕ) (f : TypedFunctionTree) → slice_get fs k ≡ Some f → Among' (places_of_functions m fs) (places_of_function (m + k) f)
places_within m [] k f e = absurd (none_is e)
places_within m (g ∷ fs) zero f e =
    let same : m ≡ m + 0 = omega arith in
    subst (λ j. Among' (places_of_functions m (g ∷ fs)) (places_of_function j f)) same (subst (λ h. Among' (places_of_functions m (g ∷ fs)) (places_of_function m h)) (some_same e)
    (record { before = []; behind = places_of_functions (m + 1) fs; is = refl }))
places_within m (g ∷ fs) (suc k) f e =
    let s = places_within (m + 1) fs k f e in
    let same : m + 1 + k ≡ m + suc k = omega arith in
    let own = places_of_function (m + 1 + k) f in
    subst (λ j. Among' (places_of_functions m (g ∷ fs)) (places_of_function j f)) same (record {
      before = places_of_function m g ++ s.before;
      behind = s.behind;
      is = ap (λ (l : List Place). places_of_function m g ++ l) s.is ∙ sym (append_assoc (places_of_function m g) s.before (own ++ s.behind));
    })

got_front : (xs ys : List Place) (k : ℕ) (q : Place) → slice_get xs k ≡ Some q → slice_get (xs ++ ys) k ≡ Some q
got_front [] ys k q e = absurd (none_is e)
got_front (x ∷ xs) ys zero q e = e
got_front (x ∷ xs) ys (suc k) q e = got_front xs ys k q e

got_after : (xs ys : List Place) (k : ℕ) (q : Place) → slice_get ys k ≡ Some q → slice_get (xs ++ ys) (length xs + k) ≡ Some q
got_after [] ys k q e = subst (λ j. slice_get ys j ≡ Some q) none e
  where
    none : k ≡ 0 + k
    none = omega arith
got_after (x ∷ xs) ys k q e = subst (λ j. slice_get (x ∷ (xs ++ ys)) j ≡ Some q) one (got_after xs ys k q e)
  where
    one : suc (length xs + k) ≡ suc (length xs) + k
    one = omega arith

-- The place that stands in a function behind so many of its places has the number behind theirs.
pub numbered_within : (all own : List Place) → AllAscend all → (w : Among' all own) → (k : ℕ) (q : Place) → slice_get own k ≡ Some q → place_number_at all q.spot.at ≡ length w.before + k + 1
numbered_within all own h w k q e =
    numbered_in all h (length w.before + k) q (subst (λ (l : List Place). slice_get l (length w.before + k) ≡ Some q) (sym w.is) (got_after w.before (own ++ w.behind) k q (got_front own w.behind k q e)))
