-- How many positions stand before one.
use Rattle.std.proofs.Common.{◌≡◌, ℕ, zero, suc, ◌+◌, ◌<◌, ◌≤◌, List, [], ◌∷◌, length, get_or, refl, ap, sym, ◌∙◌, Bool, true, false, cond, ltb, map, arith}
use Rattle.std.specs.Prelude.{nat_lt, if◌then◌else◌}
use Rattle.std.specs.List.{count_by}
use Rattle.std.specs.List.Sorted.{IsPermutation}
use Rattle.std.proofs.lemmas.List.Sorted.{sum_by-IsPermutation}
use Rattle.std.proofs.lemmas.List.Sums.{sum_by-cons}
use Rattle.c_places.specs.declared.place.Place as declared-place
use Rattle.c_places.specs.Places.{place_view, count_before, place_number_at}
use Rattle.c_flow.specs.Tables.{place_number}

-- one for a position that stands before another
abbrev one_if : (at y : ℕ) → ℕ
one_if at y = cond (nat_lt y at) 1 0

-- none of those that are not before a position is counted
none_before : (at : ℕ) (xs : List ℕ) → ((j d : ℕ) → j < length xs → ltb (get_or xs j d) at ≡ false) → count_by (λ (y : ℕ). nat_lt y at) xs ≡ 0
none_before at [] all = refl
none_before at (x ∷ xs) all = rw (all 0 0 (omega arith)) (none_before at xs (λ j d lt. all (suc j) d (omega arith)))

-- as many stand before a position as come before the point at which positions in order are parted
pub count_at_point : (at : ℕ) (xs : List ℕ) (i : ℕ) → i ≤ length xs → ((j d : ℕ) → j < i → ltb (get_or xs j d) at ≡ true) → ((j d : ℕ) → i ≤ j → j < length xs → ltb (get_or xs j d) at ≡ false)
    → count_by (λ (y : ℕ). nat_lt y at) xs ≡ i
count_at_point at [] i le before after = omega arith
count_at_point at (x ∷ xs) zero le before after = none_before at (x ∷ xs) (λ j d lt. after j d (omega arith) lt)
count_at_point at (x ∷ xs) (suc i) le before after =
    let rest : count_by (λ (y : ℕ). nat_lt y at) xs ≡ i = count_at_point at xs i (omega arith) (λ j d lt. before (suc j) d (omega arith)) (λ j d low lt. after (suc j) d (omega arith) (omega arith)) in
    let here : one_if at x ≡ 1 = ap (λ (b : Bool). cond {A = ℕ} b 1 0) (before 0 0 (omega arith)) in
    let cut : count_by (λ (y : ℕ). nat_lt y at) (x ∷ xs) ≡ one_if at x + count_by (λ (y : ℕ). nat_lt y at) xs = sum_by-cons (one_if at) x xs in
    cut ∙ ap (λ (n : ℕ). n + count_by (λ (y : ℕ). nat_lt y at) xs) here ∙ ap (λ (n : ℕ). 1 + n) rest ∙ one_more i
  where
    one_more : (n : ℕ) → 1 + n ≡ suc n
    one_more n = omega arith

-- one more, if so
more_if : (b : Bool) (m n : ℕ) → m ≡ n → (if b then m + 1 else m) ≡ cond {A = ℕ} b 1 0 + n
more_if true m n e = omega arith
more_if false m n e = omega arith

-- the places before a position are as many as their positions that are below it
pub count_of_places : (places : List declared-place.Place) (at : ℕ) → count_before at (map place_view places) ≡ count_by (λ (y : ℕ). nat_lt y at) (map (λ (p : declared-place.Place). p.spot.at) places)
count_of_places [] at = refl
count_of_places (p ∷ places) at =
    let rest = map (λ (q : declared-place.Place). q.spot.at) places in
    more_if (nat_lt p.spot.at at) (count_before at (map place_view places)) (count_by (λ (y : ℕ). nat_lt y at) rest) (count_of_places places at) ∙ sym (sum_by-cons (one_if at) p.spot.at rest)

-- the number of a place among positions in order is its number among the places
pub same_number : (places : List declared-place.Place) (positions : List ℕ) (at : ℕ) → IsPermutation (map (λ (p : declared-place.Place). p.spot.at) places) positions
    → place_number positions at ≡ place_number_at (map place_view places) at
same_number places positions at moved =
    ap (λ (n : ℕ). n + 1) (sum_by-IsPermutation (one_if at) (map (λ (p : declared-place.Place). p.spot.at) places) positions moved ∙ sym (count_of_places places at))
