-- Places and variables as one number, and lists of such numbers.
use Rattle.std.proofs.Common.{◌≡◌, ℕ, ◌+◌, ◌<◌, ◌≤◌, Bool, true, false, not, ◌&&◌, ◌||◌, ◌==◌, List, [], ◌∷◌, ◌++◌, length, get_or, take, refl, sym, ap, ◌∙◌, arith, inl, inr, nat_cmp}
use Rattle.std.specs.Prelude.{◌↔◌, Contains, Result, Ok, Err, is_ok, slice_index}
use Rattle.std.specs.List.{list_any}
use Rattle.std.specs.List.Sorted.{IsBinarySearchResult, IsNonDecreasing, IsPermutation}
use Rattle.std.specs.Result.{MatchResult}
use Rattle.std.proofs.lemmas.Bool.{and_parts, cases_Bool, eq-eqb, eqb-true, true≢false}
use Rattle.std.proofs.lemmas.List.{get_or_default}
use Rattle.std.proofs.lemmas.List.Folds.{Any-from_list_any, list_any-append, list_any_at, list_any_more}
use Rattle.std.proofs.lemmas.List.Sorted.{list_any-IsPermutation, searched}
use Rattle.base_laws.proofs.Booleans.{same_by}
use Rattle.image_form_sections.specs.Layouts.{HoldsTakenPlaces, HoldsQuietPlaces}
use Rattle.image_form_sections.specs.Sections.{Sections}
use Rattle.image_form_sections.specs.TestsOfChanges.{is_quiet_place, is_taken_from, is_taking, pair_key}

-- Two pairs of one number are the same pair, where the variables are words.
key_parts : (a b p v : ℕ) → b < 4294967296 → v < 4294967296 → pair_key a b ≡ pair_key p v → (a ≡ p) × (b ≡ v)
unfolding pair_key
key_parts a b p v small few e = (omega (arith, small, few, e), omega (arith, small, few, e))

key_same : (a b p v : ℕ) → b < 4294967296 → v < 4294967296 → (pair_key a b == pair_key p v) ≡ (a == p && b == v)
key_same a b p v small few = same_by (pair_key a b == pair_key p v) (a == p && b == v) there back
  where
    there : (pair_key a b == pair_key p v) ≡ true → (a == p && b == v) ≡ true
    there e =
        let parts = key_parts a b p v small few (eqb-true (pair_key a b) (pair_key p v) e) in
        rw (eq-eqb a p parts.0, eq-eqb b v parts.1) refl

    back : (a == p && b == v) ≡ true → (pair_key a b == pair_key p v) ≡ true
    back e =
        let parts = and_parts (a == p) (b == v) e in
        eq-eqb (pair_key a b) (pair_key p v) (λ i. pair_key (eqb-true a p parts.0 i) (eqb-true b v parts.1 i))

-- A number is in a list exactly where a test finds it.
contains_any : (keys : List ℕ) (x : ℕ) → Contains keys x → list_any (λ y. y == x) keys ≡ true
contains_any keys x (k, lt, e) = list_any_at (λ y. y == x) keys k x lt (eq-eqb (get_or keys k x) x e)

any_contains : (keys : List ℕ) (x : ℕ) → list_any (λ y. y == x) keys ≡ true → Contains keys x
any_contains keys x found =
    let any = Any-from_list_any (λ y. y == x) keys found in
    (any.0, any.2, get_or_default keys any.0 x any.1 any.2 ∙ any.3 ∙ eqb-true any.1 x any.4)

-- A search in a list in order tells whether a number is in it.
search_tells : (keys : List ℕ) (x : ℕ) (r : Result ℕ ℕ)
    → MatchResult r (λ i. (i < length keys) × (get_or keys i 0 ≡ x)) (λ i. (i ≤ length keys) × ((k : ℕ) → k < i → get_or keys k 0 < x) × ((k : ℕ) → i ≤ k → k < length keys → x < get_or keys k 0))
    → (is_ok r ≡ true) ↔ Contains keys x
search_tells keys x (Ok i) found = (λ e. (i, found.0, get_or_default keys i x 0 found.0 ∙ found.1), λ h. refl)
search_tells keys x (Err i) found =
    (λ e. absurd (true≢false (sym e)), λ h. absurd (beside h.0 h.1 (get_or_default keys h.0 0 x h.1 ∙ h.2)))
  where
    beside : (k : ℕ) → k < length keys → get_or keys k 0 ≡ x → ⊥
    beside k lt e = grind (arith, found.1, found.2)

search_finds : (keys : List ℕ) (x : ℕ) (r : Result ℕ ℕ) → IsNonDecreasing keys → IsBinarySearchResult (λ y. nat_cmp y x) keys r → (is_ok r ≡ true) ↔ Contains keys x
search_finds keys x r ordered told = search_tells keys x r (searched keys x r told (λ i j le lt. ordered i j 0 le lt))

-- A search among the numbers tells whether a change took an assignment,
pub taken_found : (keys : List ℕ) (s : Sections) (place variable : ℕ) (r : Result ℕ ℕ) → variable < 4294967296 → HoldsTakenPlaces keys s
    → IsBinarySearchResult (λ y. nat_cmp y (pair_key place variable)) keys r → is_ok r ≡ is_taken_from s place variable
taken_found keys s place variable r small holds told =
    let found = search_finds keys (pair_key place variable) r holds.ordered told in
    let all = holds.all place variable small in
    same_by (is_ok r) (is_taken_from s place variable) (λ e. all.0 (found.0 e)) (λ e. found.1 (all.1 e))

-- and whether a quiet path may begin at a place.
pub quiet_found : (keys : List ℕ) (s : Sections) (place variable : ℕ) (r : Result ℕ ℕ) → variable < 4294967296 → HoldsQuietPlaces keys s
    → IsBinarySearchResult (λ y. nat_cmp y (pair_key place variable)) keys r → is_ok r ≡ is_quiet_place s place variable
quiet_found keys s place variable r small holds told =
    let found = search_finds keys (pair_key place variable) r holds.ordered told in
    let all = holds.all place variable small in
    same_by (is_ok r) (is_quiet_place s place variable) (λ e. all.0 (found.0 e)) (λ e. found.1 (all.1 e))

-- One number more behind a list.
more_any : (keys : List ℕ) (a b p v : ℕ) → b < 4294967296 → v < 4294967296
    → list_any (λ y. y == pair_key p v) (keys ++ pair_key a b ∷ []) ≡ (list_any (λ y. y == pair_key p v) keys || (a == p && b == v))
more_any keys a b p v small few =
    list_any-append (λ y. y == pair_key p v) keys (pair_key a b ∷ []) ∙ ap (λ (c : Bool). list_any (λ y. y == pair_key p v) keys || c) (one ∙ key_same a b p v small few)
  where
    one : ((pair_key a b == pair_key p v) || false) ≡ (pair_key a b == pair_key p v)
    one = elim (cases_Bool (pair_key a b == pair_key p v)) [ inl e ↦ rw e refl | inr e ↦ rw e refl ]

-- The numbers of the first rows of changes by which assignments went.
abbrev pub AreTaken : (keys : List ℕ) (changes : List (List ℕ)) → Type 0
AreTaken keys changes =
    (place variable : ℕ) → variable < 4294967296
    → list_any (λ y. y == pair_key place variable) keys
    ≡ list_any (λ change. is_taking (slice_index change 1) && slice_index change 2 == place && slice_index change 3 == variable) changes

-- The next row is one of a change by which an assignment went,
pub taken_more : (keys : List ℕ) (changes : List (List ℕ)) (i : ℕ) → i < length changes → slice_index (get_or changes i []) 3 < 4294967296
    → is_taking (slice_index (get_or changes i []) 1) ≡ true → AreTaken keys (take i changes)
    → AreTaken (keys ++ pair_key (slice_index (get_or changes i []) 2) (slice_index (get_or changes i []) 3) ∷ []) (take (i + 1) changes)
taken_more keys changes i there small taking are p v few =
    let row = get_or changes i [] in
    more_any keys (slice_index row 2) (slice_index row 3) p v small few
    ∙ ap (λ (b : Bool). b || (slice_index row 2 == p && slice_index row 3 == v)) (are p v few)
    ∙ sym (list_any_more (λ change. is_taking (slice_index change 1) && slice_index change 2 == p && slice_index change 3 == v) changes i [] there ∙ rw taking refl)

-- or of another.
pub taken_same : (keys : List ℕ) (changes : List (List ℕ)) (i : ℕ) → i < length changes
    → is_taking (slice_index (get_or changes i []) 1) ≡ false → AreTaken keys (take i changes) → AreTaken keys (take (i + 1) changes)
taken_same keys changes i there other are p v few =
    are p v few
    ∙ sym (list_any_more (λ change. is_taking (slice_index change 1) && slice_index change 2 == p && slice_index change 3 == v) changes i [] there ∙ rw other (plain _))
  where
    plain : (b : Bool) → (b || false) ≡ b
    plain true = refl
    plain false = refl

-- In order they are those that a search needs.
pub taken_sorted : (keys sorted : List ℕ) (s : Sections) → AreTaken keys s.changes → IsPermutation keys sorted → IsNonDecreasing sorted → HoldsTakenPlaces sorted s
taken_sorted keys sorted s are moved ordered = record {
  ordered = ordered;
  all = λ place variable few. (
    λ in_keys. sym (same place variable few) ∙ contains_any sorted (pair_key place variable) in_keys,
    λ taken. any_contains sorted (pair_key place variable) (same place variable few ∙ taken),
  );
}
  where
    same : (place variable : ℕ) → variable < 4294967296 → list_any (λ y. y == pair_key place variable) sorted ≡ is_taken_from s place variable
    same place variable few = sym (list_any-IsPermutation (λ y. y == pair_key place variable) keys sorted moved) ∙ are place variable few

-- The numbers of the first assigned pairs that no change took.
abbrev pub AreQuiet : Sections → (keys : List ℕ) (pairs : List (List ℕ)) → Type 0
AreQuiet s keys pairs =
    (place variable : ℕ) → variable < 4294967296
    → list_any (λ y. y == pair_key place variable) keys
    ≡ (list_any (λ pair. slice_index pair 0 == place && slice_index pair 1 == variable) pairs && not (is_taken_from s place variable))

-- The next pair was not taken,
pub quiet_more : (s : Sections) (keys : List ℕ) (pairs : List (List ℕ)) (i : ℕ) → i < length pairs → slice_index (get_or pairs i []) 1 < 4294967296
    → is_taken_from s (slice_index (get_or pairs i []) 0) (slice_index (get_or pairs i []) 1) ≡ false → AreQuiet s keys (take i pairs)
    → AreQuiet s (keys ++ pair_key (slice_index (get_or pairs i []) 0) (slice_index (get_or pairs i []) 1) ∷ []) (take (i + 1) pairs)
quiet_more s keys pairs i there small kept are p v few =
    let row = get_or pairs i [] in
    more_any keys (slice_index row 0) (slice_index row 1) p v small few
    ∙ ap (λ (b : Bool). b || (slice_index row 0 == p && slice_index row 1 == v)) (are p v few)
    ∙ step (list_any test (take i pairs)) (test row) refl
    ∙ ap (λ (b : Bool). b && not (is_taken_from s p v)) (sym (list_any_more test pairs i [] there))
  where
    test : List ℕ → Bool
    test = λ pair. slice_index pair 0 == p && slice_index pair 1 == v

    plain : (b : Bool) → (b || false) ≡ b
    plain true = refl
    plain false = refl

    both : (b : Bool) → (b && true || true) ≡ ((b || true) && true)
    both true = refl
    both false = refl

    step : (before here : Bool) → test (get_or pairs i []) ≡ here → (before && not (is_taken_from s p v) || here) ≡ ((before || here) && not (is_taken_from s p v))
    step before true is =
        let parts = and_parts (slice_index (get_or pairs i []) 0 == p) (slice_index (get_or pairs i []) 1 == v) is in
        let free : is_taken_from s p v ≡ false = sym (λ j. is_taken_from s (eqb-true (slice_index (get_or pairs i []) 0) p parts.0 j) (eqb-true (slice_index (get_or pairs i []) 1) v parts.1 j)) ∙ kept in
        rw free (both before)
    step true false is = plain (not (is_taken_from s p v))
    step false false is = refl

-- or it was.
pub quiet_same : (s : Sections) (keys : List ℕ) (pairs : List (List ℕ)) (i : ℕ) → i < length pairs
    → is_taken_from s (slice_index (get_or pairs i []) 0) (slice_index (get_or pairs i []) 1) ≡ true → AreQuiet s keys (take i pairs) → AreQuiet s keys (take (i + 1) pairs)
quiet_same s keys pairs i there taken are p v few =
    are p v few
    ∙ step (list_any test (take i pairs)) (test (get_or pairs i [])) refl
    ∙ ap (λ (b : Bool). b && not (is_taken_from s p v)) (sym (list_any_more test pairs i [] there))
  where
    test : List ℕ → Bool
    test = λ pair. slice_index pair 0 == p && slice_index pair 1 == v

    both : (b : Bool) → (b && false) ≡ ((b || true) && false)
    both true = refl
    both false = refl

    step : (before here : Bool) → test (get_or pairs i []) ≡ here → (before && not (is_taken_from s p v)) ≡ ((before || here) && not (is_taken_from s p v))
    step before true is =
        let parts = and_parts (slice_index (get_or pairs i []) 0 == p) (slice_index (get_or pairs i []) 1 == v) is in
        let gone : is_taken_from s p v ≡ true = sym (λ j. is_taken_from s (eqb-true (slice_index (get_or pairs i []) 0) p parts.0 j) (eqb-true (slice_index (get_or pairs i []) 1) v parts.1 j)) ∙ taken in
        rw gone (both before)
    step true false is = refl
    step false false is = refl

-- In order they are those that a search needs.
pub quiet_sorted : (keys sorted : List ℕ) (s : Sections) → AreQuiet s keys s.assigned → IsPermutation keys sorted → IsNonDecreasing sorted → HoldsQuietPlaces sorted s
unfolding is_quiet_place
quiet_sorted keys sorted s are moved ordered = record {
  ordered = ordered;
  all = λ place variable few. (
    λ in_keys. sym (same place variable few) ∙ contains_any sorted (pair_key place variable) in_keys,
    λ quiet. any_contains sorted (pair_key place variable) (same place variable few ∙ quiet),
  );
}
  where
    same : (place variable : ℕ) → variable < 4294967296 → list_any (λ y. y == pair_key place variable) sorted ≡ is_quiet_place s place variable
    same place variable few = sym (list_any-IsPermutation (λ y. y == pair_key place variable) keys sorted moved) ∙ are place variable few
