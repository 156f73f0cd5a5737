-- The rows of a place lie side by side.
use Rattle.std.proofs.Common.{◌≡◌, ℕ, zero, suc, ◌+◌, ◌-◌, ◌<◌, ◌≤◌, ◌==◌, Bool, true, false, leb, ltb, Some, List, [], ◌∷◌, length, get_or, take, drop, refl, sym, ap, ◌∙◌, subst, inl, inr, arith, All}
use Rattle.std.specs.List.{filter}
use Rattle.std.specs.List.Sorted.{IsNonDecreasingBy, IsPartitionPoint}
use Rattle.std.proofs.lemmas.Bool.Decides.{nat_tests}
use Rattle.std.proofs.lemmas.List.{get_or-drop, length-drop, take_all}
use Rattle.std.proofs.lemmas.List.Elements.{All-filter, filter_passes}
use Rattle.image_form.specs.declared.verdicts.VisibleRow.{VisibleRow}
use Rattle.image_form.specs.Lists.{EachToNext}
use Rattle.image_form.specs.RulesOfChanges.{IsPairBefore}
use Rattle.stop_engine_view.specs.Rows.{rows_at}

-- ---- What a filter keeps of a list whose items that pass lie side by side

pub kept_behind : {A : Type 0} (p : A → Bool) (i : ℕ) (xs : List A) → ((k : ℕ) (d : A) → k < i → k < length xs → p (get_or xs k d) ≡ false) → filter p xs ≡ filter p (drop i xs)
kept_behind p zero xs fails = refl
kept_behind p (suc i) [] fails = refl
kept_behind p (suc i) (x ∷ xs) fails =
    let first : p x ≡ false = fails 0 x (omega arith) (omega arith) in
    rw first (kept_behind p i xs (λ k d lt within. fails (suc k) d (omega arith) (omega arith)))

pub none_kept : {A : Type 0} (p : A → Bool) (xs : List A) → ((k : ℕ) (d : A) → k < length xs → p (get_or xs k d) ≡ false) → filter p xs ≡ []
none_kept p [] fails = refl
none_kept p (x ∷ xs) fails =
    let first : p x ≡ false = fails 0 x (omega arith) in
    rw first (none_kept p xs (λ k d within. fails (suc k) d (omega arith)))

front_kept : {A : Type 0} (p : A → Bool) (n : ℕ) (xs : List A) → ((k : ℕ) (d : A) → k < n → k < length xs → p (get_or xs k d) ≡ true) → ((k : ℕ) (d : A) → n ≤ k → k < length xs → p (get_or xs k d) ≡ false)
    → filter p xs ≡ take n xs
front_kept p zero xs passes fails = none_kept p xs (λ k d within. fails k d (omega arith) within)
front_kept p (suc n) [] passes fails = refl
front_kept p (suc n) (x ∷ xs) passes fails =
    let first : p x ≡ true = passes 0 x (omega arith) (omega arith) in
    rw first (ap (λ l. x ∷ l) (front_kept p n xs (λ k d lt within. passes (suc k) d (omega arith) (omega arith)) (λ k d le within. fails (suc k) d (omega arith) (omega arith))))

-- ---- The order of rows

first_not_behind : (r : VisibleRow) (rows : List VisibleRow) → EachToNext (λ (r s : VisibleRow). IsPairBefore r.place r.variable s.place s.variable) (r ∷ rows) → (j : ℕ) (d : VisibleRow) → j < length rows → r.place ≤ (get_or rows j d).place
first_not_behind r [] ascend j d lt = absurd (omega arith)
first_not_behind r (q ∷ rows) ascend zero d lt = elim ascend.0 [ inl less ↦ omega (arith, less) | inr same ↦ omega (arith, same.0) ]
first_not_behind r (q ∷ rows) ascend (suc j) d lt =
    let later = first_not_behind q rows ascend.1 j d (omega arith) in
    elim ascend.0 [ inl less ↦ omega (arith, less, later) | inr same ↦ omega (arith, same.0, later) ]

pub places_ascend : (rows : List VisibleRow) → EachToNext (λ (r s : VisibleRow). IsPairBefore r.place r.variable s.place s.variable) rows → IsNonDecreasingBy (λ (r : VisibleRow). r.place) rows
places_ascend [] ascend i j d le lt = absurd (omega arith)
places_ascend (r ∷ rows) ascend zero zero d le lt = omega arith
places_ascend (r ∷ rows) ascend (suc i) zero d le lt = absurd (omega arith)
places_ascend (r ∷ rows) ascend zero (suc j) d le lt = first_not_behind r rows ascend j d (omega arith)
places_ascend (r ∷ rows) ascend (suc i) (suc j) d le lt = places_ascend rows ascend.1 i j d (omega arith) (omega arith)

-- The rows from the first that is of no earlier place, up to the first of a later one, are those of the place.
pub side_by_side : (place : ℕ) (rows : List VisibleRow) (start count : ℕ)
    → IsPartitionPoint (λ (r : VisibleRow). ltb r.place place ≡ true) (λ (r : VisibleRow). ltb r.place place ≡ false) rows start
    → IsPartitionPoint (λ (r : VisibleRow). leb r.place place ≡ true) (λ (r : VisibleRow). leb r.place place ≡ false) (drop start rows) count
    → take count (drop start rows) ≡ rows_at place rows
side_by_side place rows start count first last = sym (kept_behind of_place start rows earlier ∙ front_kept of_place count (drop start rows) here later)
  where
    of_place : VisibleRow → Bool
    of_place = λ (r : VisibleRow). r.place == place

    earlier : (k : ℕ) (d : VisibleRow) → k < start → k < length rows → of_place (get_or rows k d) ≡ false
    earlier k d lt within = let less = first.0 k d (omega arith) lt in grind (arith, nat_tests, less)

    not_less : (k : ℕ) (d : VisibleRow) → k < length (drop start rows) → ltb (get_or (drop start rows) k d).place place ≡ false
    not_less k d within =
        ap (λ (r : VisibleRow). ltb r.place place) (get_or-drop start rows k d) ∙ first.1 (start + k) d (omega arith) (omega (arith, within, length-drop start rows))

    here : (k : ℕ) (d : VisibleRow) → k < count → k < length (drop start rows) → of_place (get_or (drop start rows) k d) ≡ true
    here k d lt within = let below = not_less k d within in let above = last.0 k d (omega arith) lt in grind (arith, nat_tests, below, above)

    later : (k : ℕ) (d : VisibleRow) → count ≤ k → k < length (drop start rows) → of_place (get_or (drop start rows) k d) ≡ false
    later k d le within = let above = last.1 k d le within in grind (arith, nat_tests, above)

-- the rest of a list from an index on
pub tail_is_drop : {A : Type 0} (start : ℕ) (xs : List A) → take (length xs - start) (drop start xs) ≡ drop start xs
tail_is_drop start xs = take_all (length xs - start) (drop start xs) (omega (arith, length-drop start xs))

-- the rows of a place are of it, and what holds of all rows holds of them
pub each_of_place : (place : ℕ) (rows : List VisibleRow) → All (λ (r : VisibleRow). r.place ≡ place) (rows_at place rows)
each_of_place place rows k d lt = let passes = filter_passes (λ (r : VisibleRow). r.place == place) rows k d lt in grind (arith, nat_tests, passes)

pub all_of_place : (P : VisibleRow → Type 0) (place : ℕ) (rows : List VisibleRow) → All P rows → All P (rows_at place rows)
all_of_place P place rows all = All-filter (λ (r : VisibleRow). r.place == place) P rows all
