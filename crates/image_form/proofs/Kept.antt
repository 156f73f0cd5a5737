-- Rows that keep their tests.
use Rattle.std.proofs.Common.{◌≡◌, ℕ, zero, suc, ◌+◌, ◌<◌, Bool, true, false, List, [], ◌∷◌, length, get_or, Option, Some, None, Ok, refl, sym, ap, ◌∙◌, arith, subst}
use Rattle.std.specs.Prelude.{map, slice_get}
use Rattle.std.specs.List.{AllByRecursion}
use Rattle.std.specs.Option.{option_map, option_map_or}
use Rattle.std.proofs.lemmas.Option.{none-some, slice_get-map, get_or_from_slice_get, same_Some}
use Rattle.debug_records.specs.declared.code.Code.{Code}
use Rattle.image_form_sections.specs.Breaches.{first_false, first_broken, breach_in}
use Rattle.image_form.specs.Lists.{EachToNext}

-- Every test is kept.
abbrev pub AllTrue : List Bool → Type 0
AllTrue tests = AllByRecursion (λ t. t ≡ true) tests

pub all_true : (tests : List Bool) → first_false tests ≡ None → AllTrue tests
all_true [] e = tt
all_true (true ∷ tests) e = (refl, all_true tests (none_before (first_false tests) e))
  where
    none_before : (o : Option ℕ) → option_map suc o ≡ None → o ≡ None
    none_before None e = refl
    none_before (Some k) e = absurd (none-some (suc k) (sym e))
all_true (false ∷ tests) e = absurd (none-some 0 (sym e))

pub none_false : (tests : List Bool) → AllTrue tests → first_false tests ≡ None
none_false [] all = refl
none_false (t ∷ tests) all = rw (all.0, none_false tests all.1) refl

both_none : {A : Type 0} (f : ℕ → A) (o : Option ℕ) (rest : Option A) → option_map_or (λ k. Some (f k)) o rest ≡ None → (o ≡ None) × (rest ≡ None)
both_none f None rest e = (refl, e)
both_none f (Some k) rest e = absurd (none-some (f k) (sym e))

-- No row is broken where each keeps its tests, and the other way.
pub rows_kept : (tests : ℕ → List Bool) (n k : ℕ) → first_broken tests n k ≡ None → (i : ℕ) → i < n → AllTrue (tests (k + i))
rows_kept tests zero k e i lt = absurd (omega (arith, lt))
rows_kept tests (suc n) k e zero lt = let same : k ≡ k + 0 = omega arith in subst (λ m. AllTrue (tests m)) same (all_true (tests k) (both_none (λ j. (k, j)) (first_false (tests k)) (first_broken tests n (suc k)) e).0)
rows_kept tests (suc n) k e (suc i) lt =
    let same : suc k + i ≡ k + suc i = omega arith in
    subst (λ m. AllTrue (tests m)) same (rows_kept tests n (suc k) (both_none (λ j. (k, j)) (first_false (tests k)) (first_broken tests n (suc k)) e).1 i (omega (arith, lt)))

pub none_broken : (tests : ℕ → List Bool) (n k : ℕ) → ((i : ℕ) → i < n → AllTrue (tests (k + i))) → first_broken tests n k ≡ None
none_broken tests zero k all = refl
none_broken tests (suc n) k all =
    let first : k + 0 ≡ k = omega arith in
    let head = none_false (tests k) (subst (λ m. AllTrue (tests m)) first (all 0 (omega arith))) in
    let later : (i : ℕ) → i < n → AllTrue (tests (suc k + i)) = λ i lt. let same : k + suc i ≡ suc k + i = omega arith in subst (λ m. AllTrue (tests m)) same (all (suc i) (omega (arith, lt))) in
    rw (head, none_broken tests n (suc k) later) refl

pub none_in : (code : Code) (start size : ℕ) (o : Option (ℕ × ℕ)) → breach_in code start size o ≡ Ok tt → o ≡ None
none_in code start size None e = refl
none_in code start size (Some b) e = absurd cc

-- The row of a record.
pub row_is : {A : Type 0} (numbers : A → List ℕ) (xs : List A) (i : ℕ) (x : A) → slice_get xs i ≡ Some x → get_or (map numbers xs) i [] ≡ numbers x
row_is numbers xs i x at = get_or_from_slice_get (map numbers xs) i (numbers x) [] (slice_get-map numbers xs i ∙ ap (option_map numbers) at)

-- Neighbours of a table in order.
pub next_from : {A : Type 0} (R : A → A → Type 0) (xs : List A) → ((i : ℕ) (x y : A) → slice_get xs i ≡ Some x → slice_get xs (suc i) ≡ Some y → R x y) → EachToNext R xs
next_from R [] at = tt
next_from R (x ∷ []) at = (tt, tt)
next_from R (x ∷ y ∷ xs) at = (at 0 x y refl refl, next_from R (y ∷ xs) (λ i u v. at (suc i) u v))

pub next_at : {A : Type 0} (R : A → A → Type 0) (xs : List A) → EachToNext R xs → (i : ℕ) (x y : A) → slice_get xs i ≡ Some x → slice_get xs (suc i) ≡ Some y → R x y
next_at R [] all i x y ex ey = absurd cc
next_at R (z ∷ []) all zero x y ex ey = absurd cc
next_at R (z ∷ w ∷ zs) all zero x y ex ey = let same_x = same_Some z x ex in let same_y = same_Some w y ey in rw (← same_x, ← same_y) all.0
next_at R (z ∷ zs) all (suc i) x y ex ey = next_at R zs all.1 i x y ex ey

-- The record before one that is there.
pub before_at : {A : Type 0} (xs : List A) (j : ℕ) (y : A) → slice_get xs (suc j) ≡ Some y → (x : A) × (slice_get xs j ≡ Some x)
before_at [] j y e = absurd cc
before_at (x ∷ xs) zero y e = (x, refl)
before_at (x ∷ xs) (suc j) y e = before_at xs j y e

-- What holds of each record that is there holds of each number of one.
pub at_each : {A : Type 0} (xs : List A) (P : ℕ → Type 0) → ((i : ℕ) (x : A) → slice_get xs i ≡ Some x → P i) → (i : ℕ) → i < length xs → P i
at_each [] P each i lt = absurd (omega (arith, lt))
at_each (x ∷ xs) P each zero lt = each 0 x refl
at_each (x ∷ xs) P each (suc i) lt = at_each xs (λ j. P (suc j)) (λ j y e. each (suc j) y e) i (omega (arith, lt))

-- What a mapped record was.
pub map_at : {A B : Type 0} (g : A → B) (xs : List A) (i : ℕ) (y : B) → slice_get (map g xs) i ≡ Some y → (x : A) × (slice_get xs i ≡ Some x) × (g x ≡ y)
map_at g [] i y e = absurd cc
map_at g (x ∷ xs) zero y e = (x, refl, same_Some (g x) y e)
map_at g (x ∷ xs) (suc i) y e = map_at g xs i y e
