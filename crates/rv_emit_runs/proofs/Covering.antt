-- Numbers that are each once, and as many as there are below a number, are all of these.
use Rattle.std.proofs.Common.{◌≡◌, ◌≢◌, ℕ, zero, suc, ◌+◌, ◌<◌, ◌≤◌, ◌⊎◌, inl, inr, ⊎_elim, List, [], ◌∷◌, length, refl, sym, subst, arith}
use Rattle.std.specs.List.{AllByRecursion}
use Rattle.std.proofs.lemmas.Bool.{cases_eq}
use Rattle.graph_core.specs.Paths.{Among, front, behind}
use Rattle.rv_emit_sequence.specs.Sequences.{AreOnce}

-- ---- One of them is taken away

abbrev removed : (m : ℕ) (xs : List ℕ) → Among m xs → List ℕ
removed m [] there = elim there [ ]
removed m (_ ∷ more) front = more
removed m (x ∷ more) (behind there) = x ∷ removed m more there

removed_length : (m : ℕ) (xs : List ℕ) (there : Among m xs) → length (removed m xs there) + 1 ≡ length xs
removed_length m [] there = elim there [ ]
removed_length m (_ ∷ more) front = omega arith
removed_length m (x ∷ more) (behind there) = omega (arith, removed_length m more there)

still_among : (m n : ℕ) (xs : List ℕ) (there : Among m xs) → Among n (removed m xs there) → Among n xs
still_among m n [] there at = elim there [ ]
still_among m n (_ ∷ more) front at = behind at
still_among m n (_ ∷ more) (behind there) front = front
still_among m n (x ∷ more) (behind there) (behind at) = behind (still_among m n more there at)

removed_once : (m : ℕ) (xs : List ℕ) (there : Among m xs) → AreOnce xs → AreOnce (removed m xs there)
removed_once m [] there once = elim there [ ]
removed_once m (_ ∷ more) front once = once.1
removed_once m (x ∷ more) (behind there) once = ((λ at. once.0 (still_among m x more there at)), removed_once m more there once.1)

removed_all : (P : ℕ → Type 0) (m : ℕ) (xs : List ℕ) (there : Among m xs) → AllByRecursion P xs → AllByRecursion P (removed m xs there)
removed_all P m [] there all = elim there [ ]
removed_all P m (_ ∷ more) front all = all.1
removed_all P m (x ∷ more) (behind there) all = (all.0, removed_all P m more there all.1)

-- It is not among the others.
not_again : (m : ℕ) (xs : List ℕ) (there : Among m xs) → AreOnce xs → Among m (removed m xs there) → ⊥
not_again m [] there once at = elim there [ ]
not_again m (_ ∷ more) front once at = once.0 at
not_again m (_ ∷ more) (behind there) once front = once.0 there
not_again m (x ∷ more) (behind there) once (behind at) = not_again m more there once.1 at

-- ---- How many there are

elsewhere : (m x : ℕ) (more : List ℕ) → m ≢ x → (Among m more → ⊥) → Among m (x ∷ more) → ⊥
elsewhere m x more ne not front = ne refl
elsewhere m x more ne not (behind there) = not there

is_among : (m : ℕ) (xs : List ℕ) → Among m xs ⊎ (Among m xs → ⊥)
is_among m [] = inr (λ there. elim there [ ])
is_among m (x ∷ more) =
    ⊎_elim
    (λ (e : m ≡ x). inl (subst (λ n. Among m (n ∷ more)) e front))
    (λ (ne : m ≢ x). ⊎_elim (λ (there : Among m more). inl (behind there)) (λ (not : Among m more → ⊥). inr (λ there. elsewhere m x more ne not there)) (is_among m more))
    (cases_eq m x)

lower : (m : ℕ) (xs : List ℕ) → AllByRecursion (λ n. n < m + 1) xs → (Among m xs → ⊥) → AllByRecursion (λ n. n < m) xs
lower m [] all not = tt
lower m (x ∷ more) (low, all) not =
    let other : x ≢ m = λ e. not (subst (λ n. Among m (n ∷ more)) (sym e) front) in
    (omega (arith, low, other), lower m more all (λ there. not (behind there)))

none_low : (xs : List ℕ) → AllByRecursion (λ n. n < 0) xs → length xs ≤ 0
none_low [] all = omega arith
none_low (x ∷ more) (low, all) = absurd (omega (arith, low))

-- Numbers below a number that are each once are at most so many.
pub few_below : (n : ℕ) (xs : List ℕ) → AreOnce xs → AllByRecursion (λ k. k < n) xs → length xs ≤ n
few_below zero xs once all = none_low xs all
few_below (suc n) xs once all =
    ⊎_elim
    (λ (there : Among n xs).
    let count : length (removed n xs there) + 1 ≡ length xs = removed_length n xs there in
    let few : length (removed n xs there) ≤ n = few_below n (removed n xs there) (removed_once n xs there once)
    (lower n (removed n xs there) (all_next (removed n xs there) (removed_all (λ k. k < suc n) n xs there all)) (not_again n xs there once)) in
    omega (arith, count, few))
    (λ (not : Among n xs → ⊥). let few : length xs ≤ n = few_below n xs once (lower n xs (all_next xs all) not) in omega (arith, few))
    (is_among n xs)
  where
    all_next : (ys : List ℕ) → AllByRecursion (λ k. k < suc n) ys → AllByRecursion (λ k. k < n + 1) ys
    all_next [] all = tt
    all_next (y ∷ ys) (low, all) = (omega (arith, low), all_next ys all)

-- As many as there are below it are all.
pub all_below : (n : ℕ) (xs : List ℕ) → AreOnce xs → AllByRecursion (λ k. k < n) xs → length xs ≡ n → (k : ℕ) → k < n → Among k xs
all_below n xs once all count k low =
    ⊎_elim (λ (there : Among k xs). there)
    (λ (not : Among k xs → ⊥). let few : length (k ∷ xs) ≤ n = few_below n (k ∷ xs) (not, once) (low, all) in absurd (omega (arith, few, count)))
    (is_among k xs)
