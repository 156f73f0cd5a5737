-- Markers are counted as their places are listed, and no place stands twice in a list exactly where none does in the list put in order.
use mathlib.Core.Bool.{true≢false}
use Rattle.std.proofs.Common.{◌≡◌, ℕ, zero, suc, ◌+◌, ◌<◌, ◌≤◌, ◌==◌, Bool, true, false, if◌then◌else◌, List, [], ◌∷◌, length, get_or, refl, sym, ap, ◌∙◌, subst, zero-add, arith}
use Rattle.std.specs.Prelude.{◌≢◌, ◌↔◌, IsTrue, Result, Ok, Err, nat_lt}
use Rattle.std.specs.Bool.{MatchBool}
use Rattle.std.specs.List.{All, AllAdjacentBelow, AllByRecursion, AllPairs, Contains, IsAllAdjacentAnswer, sum_by}
use Rattle.std.specs.List.Sorted.{IsBinarySearchResult, IsNonDecreasing, IsPermutation}
use Rattle.std.specs.Ordering.{nat_cmp}
use Rattle.std.specs.Result.{MatchResult, is_ok}
use Rattle.std.proofs.lemmas.Bool.Decides.{nat_tests}
use Rattle.std.proofs.lemmas.List.{get_or_default, length-append}
use Rattle.std.proofs.lemmas.List.Elements.{All-from_recursion, All-weaker, Contains-append_right, recursion_from_All}
use Rattle.std.proofs.lemmas.List.Kept.{AllPairs-from_increasing}
use Rattle.std.proofs.lemmas.List.Sums.{sum_by-cons}
use Rattle.std.proofs.lemmas.List.Sorted.{All-permutation, Contains-permutation, IsPermutation-sym, searched, sum_by-IsPermutation}
use Rattle.graph_core.specs.declared.place_table.PlaceTable.{PlaceTable}
use Rattle.graph_core.specs.declared.validity.Counted.TheVariants.{Markers}
use Rattle.graph_core.specs.Graphs.{Instruction, Marker, Block, Graph}
use Rattle.graph_core.specs.Paths.{Among, front, behind}
use Rattle.graph_core.specs.Counts.{count_in_graphs, marks}
use Rattle.graph_core.specs.PlaceTables.{IsTableOf, listed}
use Rattle.graph_core.specs.Validity.{AreAllDifferent, markers_in, markers_of, markers_of_blocks, total}

-- a count of markers, instruction by instruction and place by place
marks_in : (all : List Instruction) → total marks all ≡ length (markers_in all)
marks_in [] = refl
marks_in (Marker p ∷ all) = omega (arith, marks_in all)
marks_in (_ ∷ all) = zero-add _ ∙ marks_in all

marks_in_blocks : (all : List Block) → total (λ (b : Block). total marks b.instructions) all ≡ length (markers_of_blocks all)
marks_in_blocks [] = refl
marks_in_blocks (b ∷ all) = omega (arith, marks_in b.instructions, marks_in_blocks all, length-append (markers_in b.instructions) (markers_of_blocks all))

pub markers_counted : (all : List Graph) → count_in_graphs Markers all ≡ length (markers_of all)
markers_counted [] = refl
markers_counted (g ∷ all) = omega (arith, marks_in_blocks g.blocks, markers_counted all, length-append (markers_of_blocks g.blocks) (markers_of all))

-- one number among others
among_contains : (p : ℕ) (all : List ℕ) → Among p all → Contains all p
among_contains p [] a = elim a [ ]
among_contains p (_ ∷ all) front = (0, omega arith, refl)
among_contains p (q ∷ all) (behind a) = Contains-append_right (q ∷ []) all p (among_contains p all a)

contains_among : (p : ℕ) (all : List ℕ) → Contains all p → Among p all
contains_among p [] (k, lt, e) = absurd (omega (arith, lt))
contains_among p (q ∷ all) (zero, lt, e) = subst (λ n. Among n (q ∷ all)) e front
contains_among p (q ∷ all) (suc k, lt, e) = behind (contains_among p all (k, omega (arith, lt), e))

-- how often a number stands in a list
abbrev only : ℕ → ℕ → ℕ
only q p = if p == q then 1 else 0

only_itself : (p : ℕ) → only p p ≡ 1
only_itself p = grind (arith, nat_tests)

only_another : (p q : ℕ) → p ≢ q → only q p ≡ 0
only_another p q h = grind (arith, nat_tests)

-- a number does not occur where it is counted 0 times
absent : (p : ℕ) (all : List ℕ) → total (only p) all ≡ 0 → AllByRecursion (λ q. p ≢ q) all
absent p [] h = tt
absent p (q ∷ all) h =
    let none : only p q ≡ 0 = omega (arith, h) in
    let differ : p ≢ q = λ (e : p ≡ q). absurd (omega (arith, none, ap (only p) (sym e) ∙ only_itself p)) in
    (differ, absent p all (omega (arith, h)))

counted_none : (p : ℕ) (all : List ℕ) → AllByRecursion (λ q. p ≢ q) all → total (only p) all ≡ 0
counted_none p [] h = refl
counted_none p (q ∷ all) h =
    let differ : q ≢ p = λ (e : q ≡ p). h.0 (sym e) in
    omega (arith, only_another q p differ, counted_none p all h.1)

-- one number more in front
dropped : (p : ℕ) (more all : List ℕ) → AllByRecursion (λ q. total (only q) (p ∷ more) ≤ 1) all → AllByRecursion (λ q. total (only q) more ≤ 1) all
dropped p more [] h = tt
dropped p more (q ∷ all) h = (omega (arith, h.0), dropped p more all h.1)

added : (p : ℕ) (more all : List ℕ) → AllByRecursion (λ q. total (only q) more ≤ 1) all → AllByRecursion (λ q. p ≢ q) all → AllByRecursion (λ q. total (only q) (p ∷ more) ≤ 1) all
added p more [] h d = tt
added p more (q ∷ all) h d = (omega (arith, h.0, only_another p q d.0), added p more all h.1 d.1)

different_to : (all : List ℕ) → AllByRecursion (λ p. total (only p) all ≤ 1) all → AreAllDifferent all
different_to [] h = tt
different_to (p ∷ all) h =
    (absent p all (omega (arith, h.0, only_itself p)), different_to all (dropped p all all h.1))

different_from : (all : List ℕ) → AreAllDifferent all → AllByRecursion (λ p. total (only p) all ≤ 1) all
different_from [] d = tt
different_from (p ∷ all) d =
    (omega (arith, only_itself p, counted_none p all d.0), added p all all (different_from all d.1) d.0)

total_is_sum : (f : ℕ → ℕ) (xs : List ℕ) → total f xs ≡ sum_by f xs
total_is_sum f [] = refl
total_is_sum f (x ∷ xs) = omega (arith, total_is_sum f xs, sum_by-cons f x xs)

-- In whatever order the numbers stand, they are different.
different_moved : (xs ys : List ℕ) → IsPermutation xs ys → AreAllDifferent xs → AreAllDifferent ys
different_moved xs ys moved d =
    let once : All (λ p. total (only p) xs ≤ 1) xs = All-from_recursion (λ p. total (only p) xs ≤ 1) xs (different_from xs d) in
    let there : All (λ p. total (only p) xs ≤ 1) ys = All-permutation (λ p. total (only p) xs ≤ 1) xs ys moved once in
    different_to ys (recursion_from_All (λ p. total (only p) ys ≤ 1) ys (All-weaker (λ p. total (only p) xs ≤ 1) (λ p. total (only p) ys ≤ 1) (λ p le. omega (arith, le, same p)) ys there))
  where
    same : (p : ℕ) → total (only p) ys ≡ total (only p) xs
    same p = total_is_sum (only p) ys ∙ sum_by-IsPermutation (only p) xs ys moved ∙ sym (total_is_sum (only p) xs)

-- Numbers of which each is less than the next are different, and two that are equal are not.
rising_different : (xs : List ℕ) → AllPairs (λ x y. x < y) xs → AreAllDifferent xs
rising_different [] h = tt
rising_different (x ∷ xs) h =
    let apart : All (λ q. x ≢ q) xs = λ k d lt e. absurd (omega (arith, h 0 (suc k) d (omega arith) (omega (arith, lt)), e)) in
    (recursion_from_All (λ q. x ≢ q) xs apart, rising_different xs (λ i j d lt within. h (suc i) (suc j) d (omega (arith, lt)) (omega (arith, within))))

differ_at : (xs : List ℕ) (i j d : ℕ) → i < j → j < length xs → AreAllDifferent xs → get_or xs i d ≢ get_or xs j d
differ_at [] i j d lt within h = absurd (omega (arith, within))
differ_at (x ∷ xs) i zero d lt within h = absurd (omega (arith, lt))
differ_at (x ∷ xs) zero (suc j) d lt within h = All-from_recursion (λ q. x ≢ q) xs h.0 j d (omega (arith, within))
differ_at (x ∷ xs) (suc i) (suc j) d lt within h = differ_at xs i j d (omega (arith, lt)) (omega (arith, within)) h.1

-- Neighbours that rise tell the same of all.
pairs_from_adjacent : (xs : List ℕ) → AllAdjacentBelow (λ x y. true ≡ nat_lt x y) xs (length xs) → AllPairs (λ x y. x < y) xs
pairs_from_adjacent xs h = AllPairs-from_increasing xs (λ k lt. less k (h k 0 lt))
  where
    less : (k : ℕ) → true ≡ nat_lt (get_or xs k 0) (get_or xs (k + 1) 0) → get_or xs k 0 < get_or xs (k + 1) 0
    less k e = grind (arith, nat_tests)

rising_told : (xs : List ℕ) (r : Bool) → IsNonDecreasing xs → MatchBool r (AllAdjacentBelow (λ x y. true ≡ nat_lt x y) xs (length xs)) ((k : ℕ) × (k + 1 < length xs) × ((d : ℕ) → false ≡ nat_lt (get_or xs k d) (get_or xs (k + 1) d))) → (IsTrue r ↔ AreAllDifferent xs)
rising_told xs true order m = (λ e. rising_different xs (pairs_from_adjacent xs m), λ h. refl)
rising_told xs false order m =
    (λ e. absurd (true≢false (sym e)), λ h. absurd (differ_at xs m.0 (m.0 + 1) 0 (omega arith) m.1 h (equal m.0 (m.1) (m.2 0) (order m.0 (m.0 + 1) 0 (omega arith) m.1))))
  where
    equal : (k : ℕ) → k + 1 < length xs → false ≡ nat_lt (get_or xs k 0) (get_or xs (k + 1) 0) → get_or xs k 0 ≤ get_or xs (k + 1) 0 → get_or xs k 0 ≡ get_or xs (k + 1) 0
    equal k lt e le = grind (arith, nat_tests)

-- what a search among numbers in order found is one of them
found : (xs : List ℕ) (x : ℕ) (r : Result ℕ ℕ) → MatchResult r (λ i. (i < length xs) × (get_or xs i 0 ≡ x)) (λ i. (i ≤ length xs) × ((k : ℕ) → k < i → get_or xs k 0 < x) × ((k : ℕ) → i ≤ k → k < length xs → x < get_or xs k 0))
    → (IsTrue (is_ok r) ↔ Contains xs x)
found xs x (Ok i) m =
    let here : get_or xs i x ≡ x = get_or_default xs i x 0 m.0 ∙ m.1 in
    (λ e. (i, m.0, here), λ h. refl)
found xs x (Err i) m =
    (λ e. absurd (true≢false (sym e)), λ h. absurd (beside h.0 h.1 (get_or_default xs h.0 0 x h.1 ∙ h.2)))
  where
    beside : (k : ℕ) → k < length xs → get_or xs k 0 ≡ x → ⊥
    beside k lt e = grind (arith, m.1, m.2)

-- what the tests of a table tell of the places that it lists
module _ (places : List ℕ) (t : PlaceTable) (is : IsTableOf places t) where
  pub told_listed : (x : ℕ) (r : Result ℕ ℕ) → IsBinarySearchResult (λ y. nat_cmp y x) (listed t) r → (IsTrue (is_ok r) ↔ Among x places)
  told_listed x r told =
      let both = found (listed t) x r (searched (listed t) x r told (λ i j le lt. is.order i j 0 le lt)) in (
        λ e. contains_among x places (Contains-permutation (listed t) places x (IsPermutation-sym places (listed t) is.same) (both.0 e)),
        λ a. both.1 (Contains-permutation places (listed t) x is.same (among_contains x places a)),
      )

  pub told_different : (r : Bool) → IsAllAdjacentAnswer (λ x y b. b ≡ nat_lt x y) (listed t) r → (IsTrue r ↔ AreAllDifferent places)
  told_different r told =
      let both = rising_told (listed t) r is.order told in (
        λ e. different_moved (listed t) places (IsPermutation-sym places (listed t) is.same) (both.0 e),
        λ d. both.1 (different_moved places (listed t) is.same d),
      )
