-- Tables of marks.
use Rattle.std.proofs.Common.{◌≡◌, ◌≢◌, ℕ, zero, suc, ◌+◌, ◌<◌, ◌==◌, ◌||◌, Bool, true, false, List, [], ◌∷◌, ◌++◌, length, replicate, get_or, slice_set, ap, refl, sym, ◌∙◌, arith}
use Rattle.std.proofs.lemmas.Bool.Decides.{nat_tests}
use Rattle.std.proofs.lemmas.List.{get_or-set_same, get_or-set_other, length-replicate}
use Rattle.stop_engine.specs.MarkTable.{mark_table, marked_from}
use Rattle.stop_engine.specs.Transcript.{is_among_places}
use Rattle.base_laws.proofs.Booleans.{or_false, or_true}
use Rattle.base_laws.proofs.Numbers.{eq_same}

-- a number in front of a table is not among its marks
not_before : (n k : ℕ) (marks : List Bool) → k < n → is_among_places (marked_from n marks) k ≡ false
not_before n k [] lt = refl
not_before n k (true ∷ marks) lt = let differ : (n == k) ≡ false = grind (arith, nat_tests, lt) in rw differ (not_before (n + 1) k marks (omega arith))
not_before n k (false ∷ marks) lt = not_before (n + 1) k marks (omega arith)

-- a table without a mark
pub none_marked : (n k : ℕ) → marked_from n (replicate k false) ≡ []
none_marked n zero = refl
none_marked n (suc k) = none_marked (n + 1) k

-- a number is among the marks where the table has true
marks_from : (n i k : ℕ) (marks : List Bool) → k ≡ n + i → is_among_places (marked_from n marks) k ≡ get_or marks i false
marks_from n i k [] at = refl
marks_from n zero k (true ∷ marks) at = let same : (n == k) ≡ true = grind (arith, nat_tests, at) in rw same refl
marks_from n zero k (false ∷ marks) at = not_before (n + 1) k marks (omega (arith, at))
marks_from n (suc i) k (true ∷ marks) at =
    let differ : (n == k) ≡ false = grind (arith, nat_tests, at) in rw differ (marks_from (n + 1) i k marks (omega (arith, at)))
marks_from n (suc i) k (false ∷ marks) at = marks_from (n + 1) i k marks (omega (arith, at))

pub marks_among : (marks : List Bool) (i : ℕ) → is_among_places (marked_from 0 marks) i ≡ get_or marks i false
marks_among marks i = marks_from 0 i i marks (omega arith)

-- one mark more
pub mark_one : (marks : List Bool) (i p : ℕ) → i < length marks → is_among_places (marked_from 0 (slice_set marks i true)) p ≡ (is_among_places (marked_from 0 marks) p || i == p)
mark_one marks i p within = rw (marks_among (slice_set marks i true) p, marks_among marks p) (by_test (i == p) refl)
  where
    by_test : (b : Bool) → (i == p) ≡ b → get_or (slice_set marks i true) p false ≡ (get_or marks p false || i == p)
    by_test true t =
        let same : i ≡ p = grind (arith, nat_tests, t) in
        rw (← same) (get_or-set_same marks i true false within ∙ sym (ap (λ b. get_or marks i false || b) (eq_same i) ∙ or_true (get_or marks i false)))
    by_test false t =
        let differ : p ≢ i = grind (arith, nat_tests, t) in
        rw (t, get_or-set_other marks i p true false differ) (sym (or_false (get_or marks p false)))

pub new_table : (n : ℕ) (marks : List Bool) → marks ≡ replicate n false → mark_table marks ≡ record { bound = n; places = [] }
new_table n marks e = rw (e, none_marked 0 n, length-replicate n false) refl

-- a place is among others and more where it is among the ones or the others
pub among-append : (xs ys : List ℕ) (p : ℕ) → is_among_places (xs ++ ys) p ≡ (is_among_places xs p || is_among_places ys p)
among-append [] ys p = refl
among-append (x ∷ xs) ys p = by_test (x == p) refl (among-append xs ys p)
  where
    by_test : (b : Bool) → (x == p) ≡ b → is_among_places (xs ++ ys) p ≡ (is_among_places xs p || is_among_places ys p) → is_among_places (x ∷ xs ++ ys) p ≡ (is_among_places (x ∷ xs) p || is_among_places ys p)
    by_test true t rest = rw t refl
    by_test false t rest = rw t rest
