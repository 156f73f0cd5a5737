-- Sums of numbers, one for each index below a bound.
use Rattle.std.proofs.Common.{◌≡◌, ℕ, zero, suc, ◌+◌, ◌*◌, ◌<◌, ◌≤◌, sym, subst, arith, refl, ⊎_elim}
use Rattle.std.proofs.lemmas.Bool.{cases_eq, cases_lt}
use Rattle.graph_core_weights.specs.Costs.{sum_below}

-- Lesser numbers have a lesser sum.
pub sum_most : (f g : ℕ → ℕ) (n : ℕ) → ((i : ℕ) → i < n → f i ≤ g i) → sum_below f n ≤ sum_below g n
sum_most f g zero le = omega arith
sum_most f g (suc n) le =
    let here = le n (omega arith) in
    let rest = sum_most f g n (λ i lt. le i (omega (arith, lt))) in
    omega (arith, here, rest)

-- Where one of them is less by so much, the sum is.
pub sum_room : (f g : ℕ → ℕ) (n k room : ℕ) → ((i : ℕ) → i < n → f i ≤ g i) → k < n → f k + room ≤ g k → sum_below f n + room ≤ sum_below g n
sum_room f g zero k room le lt has = absurd (omega (arith, lt))
sum_room f g (suc n) k room le lt has = ⊎_elim
    (λ (e : n ≡ k).
    let here : f n + room ≤ g n = subst (λ i. f i + room ≤ g i) (sym e) has in
    let rest = sum_most f g n (λ i low. le i (omega (arith, low))) in
    omega (arith, here, rest))
    (λ (d : n ≡ k → ⊥).
    let here = le n (omega arith) in
    let rest = sum_room f g n k room (λ i low. le i (omega (arith, low))) (below d) has in
    omega (arith, here, rest))
    (cases_eq n k)
  where
    below : (n ≡ k → ⊥) → k < n
    below d = ⊎_elim (λ (x : k < n). x) (λ (x : n ≤ k). absurd (d (omega (arith, lt, x)))) (cases_lt k n)

-- One of them is no more than the sum.
pub sum_has : (f : ℕ → ℕ) (n k : ℕ) → k < n → f k ≤ sum_below f n
sum_has f n k lt =
    let room = sum_room (λ i. 0) f n k (f k) (λ i low. omega arith) lt (omega arith) in
    omega (arith, room)

-- The sums of several numbers are those of their sum.
pub sum_both : (f g : ℕ → ℕ) (n : ℕ) → sum_below (λ i. f i + g i) n ≡ sum_below f n + sum_below g n
sum_both f g zero = refl
sum_both f g (suc n) = let rest = sum_both f g n in omega (arith, rest)

pub sum_times : (k : ℕ) (f : ℕ → ℕ) (n : ℕ) → sum_below (λ i. k * f i) n ≡ k * sum_below f n
sum_times k f zero = grind arith
sum_times k f (suc n) = let rest = sum_times k f n in grind (arith, rest)
