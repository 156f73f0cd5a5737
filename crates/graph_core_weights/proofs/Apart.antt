-- Stretches of numbers of which no two have a number in common are no longer together than what they all lie in.
use Rattle.std.proofs.Common.{◌≡◌, ◌≢◌, ℕ, zero, suc, ◌+◌, ◌-◌, ◌<◌, ◌≤◌, ◌⊎◌, inl, inr, ⊎_elim, sym, ap, ◌∙◌, arith, refl, Bool, true, false, cond}
use Rattle.std.specs.Prelude.{nat_lt}
use Rattle.std.proofs.lemmas.Bool.{cases_lt, lt-ltb, ltb-true}
use Rattle.graph_core_weights.specs.Costs.{sum_below}
use Rattle.graph_core_weights.proofs.Sums.{sum_most, sum_both}

-- 1 for a number that lies in a stretch, and else 0.
abbrev lies : (start size k : ℕ) → ℕ
lies s w k = cond (nat_lt k s) 0 (cond (nat_lt k (s + w)) 1 0)

lies_inside : (s w k : ℕ) → s ≤ k → k < s + w → lies s w k ≡ 1
lies_inside s w k low high = by_tests (nat_lt k s) (nat_lt k (s + w)) refl (lt-ltb k (s + w) high)
  where
    by_tests : (a b : Bool) → nat_lt k s ≡ a → b ≡ true → ◌≡◌ {A = ℕ} (cond a 0 (cond b 1 0)) 1
    by_tests true b is so = let lt = ltb-true k s is in absurd (omega (arith, lt, low))
    by_tests false true is so = refl
    by_tests false false is so = cc

lies_most : (s w k : ℕ) → lies s w k ≤ 1
lies_most s w k = by_tests (nat_lt k s) (nat_lt k (s + w))
  where
    by_tests : (a b : Bool) → cond a 0 (cond b 1 0) ≤ 1
    by_tests true b = omega arith
    by_tests false true = omega arith
    by_tests false false = omega arith

-- Where a number does not lie in a stretch, or lies there.
lies_or : (s w k : ℕ) → (lies s w k ≡ 0) ⊎ ((s ≤ k) × (k < s + w))
lies_or s w k = ⊎_elim (λ (lt : k < s). inl (ap (λ a. cond a 0 (cond (nat_lt k (s + w)) 1 0)) (lt-ltb k s lt))) (λ (ge : s ≤ k). by_high ge (cases_lt k (s + w))) (cases_lt k s)
  where
    by_tests : (a b : Bool) → nat_lt k (s + w) ≡ b → s + w ≤ k → ◌≡◌ {A = ℕ} (cond a 0 (cond b 1 0)) 0
    by_tests true b is le = refl
    by_tests false true is le = let lt = ltb-true k (s + w) is in absurd (omega (arith, lt, le))
    by_tests false false is le = refl

    by_high : s ≤ k → (k < s + w) ⊎ (s + w ≤ k) → (lies s w k ≡ 0) ⊎ ((s ≤ k) × (k < s + w))
    by_high ge (inl lt) = inr (ge, lt)
    by_high ge (inr le) = inl (by_tests (nat_lt k s) (nat_lt k (s + w)) refl le)

-- As many of the numbers below a bound lie in a stretch as it has there.
abbrev within : (start size bound : ℕ) → ℕ
within s w n = cond (nat_lt n (s + w)) (n - s) w

one_more : (s w n : ℕ) → within s w (suc n) ≤ lies s w n + within s w n
one_more s w n = ⊎_elim
    (λ (lt : suc n < s + w).
    let here : within s w (suc n) ≡ suc n - s = ap (λ a. cond a (suc n - s) w) (lt-ltb (suc n) (s + w) lt) in
    let before : within s w n ≡ n - s = ap (λ a. cond a (n - s) w) (lt-ltb n (s + w) (omega (arith, lt))) in
    ⊎_elim (λ (low : n < s). omega (arith, here, before, low)) (λ (ge : s ≤ n). let one = lies_inside s w n ge (omega (arith, lt)) in omega (arith, here, before, one)) (cases_lt n s))
    (λ (ge : s + w ≤ suc n).
    let here : within s w (suc n) ≡ w = at_or_over (suc n) ge in
    ⊎_elim
    (λ (lt : n < s + w).
    let before : within s w n ≡ n - s = ap (λ a. cond a (n - s) w) (lt-ltb n (s + w) lt) in
    ⊎_elim (λ (low : n < s). omega (arith, here, before, low, ge)) (λ (high : s ≤ n). let one = lies_inside s w n high lt in omega (arith, here, before, one, ge)) (cases_lt n s))
    (λ (over : s + w ≤ n). let before : within s w n ≡ w = at_or_over n over in omega (arith, here, before))
    (cases_lt n (s + w)))
    (cases_lt (suc n) (s + w))
  where
    at_or_over : (m : ℕ) → s + w ≤ m → within s w m ≡ w
    at_or_over m le = by_test (nat_lt m (s + w)) refl
      where
        by_test : (a : Bool) → nat_lt m (s + w) ≡ a → cond a (m - s) w ≡ w
        by_test true is = let lt = ltb-true m (s + w) is in absurd (omega (arith, lt, le))
        by_test false is = refl

lies_within : (s w n : ℕ) → within s w n ≤ sum_below (lies s w) n
lies_within s w zero = by_test (nat_lt 0 (s + w)) refl
  where
    by_test : (a : Bool) → nat_lt 0 (s + w) ≡ a → cond a (0 - s) w ≤ 0
    by_test true is = omega arith
    by_test false is = ⊎_elim (λ (lt : 0 < s + w). let so = lt-ltb 0 (s + w) lt in let clash : true ≡ false = sym so ∙ is in cc) (λ (ge : s + w ≤ 0). omega (arith, ge)) (cases_lt 0 (s + w))
lies_within s w (suc n) = let rest = lies_within s w n in let one = one_more s w n in omega (arith, rest, one)

lies_all : (s w n : ℕ) → s + w ≤ n → w ≤ sum_below (lies s w) n
lies_all s w n le = let all = lies_within s w n in let whole = over (nat_lt n (s + w)) refl in omega (arith, all, whole)
  where
    over : (a : Bool) → nat_lt n (s + w) ≡ a → cond a (n - s) w ≡ w
    over true is = let lt = ltb-true n (s + w) is in absurd (omega (arith, lt, le))
    over false is = refl

-- ---- Several stretches

-- Sums may be taken in either order.
sum_zero : (n : ℕ) → sum_below (λ i. 0) n ≡ 0
sum_zero zero = refl
sum_zero (suc n) = let rest = sum_zero n in omega (arith, rest)

sum_swap : (f : ℕ → ℕ → ℕ) (n m : ℕ) → sum_below (λ i. sum_below (f i) m) n ≡ sum_below (λ k. sum_below (λ i. f i k) n) m
sum_swap f zero m = sym (sum_zero m)
sum_swap f (suc n) m = ap (λ z. sum_below (f n) m + z) (sum_swap f n m) ∙ sym (sum_both (f n) (λ k. sum_below (λ i. f i k) n) m)

sum_ones : (n : ℕ) → sum_below (λ i. 1) n ≡ n
sum_ones zero = refl
sum_ones (suc n) = let rest = sum_ones n in omega (arith, rest)

-- Where a number lies in none of them, and where it lies in one at most.
sum_none : (f : ℕ → ℕ) (n : ℕ) → ((i : ℕ) → i < n → f i ≡ 0) → sum_below f n ≡ 0
sum_none f zero none = refl
sum_none f (suc n) none = let one = none n (omega arith) in let rest = sum_none f n (λ i lt. none i (omega (arith, lt))) in omega (arith, one, rest)

-- Two stretches have no number in common.
abbrev pub AreApart : (start size : ℕ → ℕ) → (i j : ℕ) → Type 0
AreApart start size i j = (start i + size i ≤ start j) ⊎ (start j + size j ≤ start i)

one_at_most : (start size : ℕ → ℕ) (n k : ℕ) → ((i j : ℕ) → i < n → j < n → i ≢ j → AreApart start size i j) → sum_below (λ i. lies (start i) (size i) k) n ≤ 1
one_at_most start size zero k apart = omega arith
one_at_most start size (suc n) k apart = by_last (lies_or (start n) (size n) k) (one_at_most start size n k (λ i j a b. apart i j (omega (arith, a)) (omega (arith, b))))
  where
    outside : (i : ℕ) → i < n → start n ≤ k → k < start n + size n → lies (start i) (size i) k ≡ 0
    outside i lt low high = by_way (lies_or (start i) (size i) k)
      where
        by_way : (lies (start i) (size i) k ≡ 0) ⊎ ((start i ≤ k) × (k < start i + size i)) → lies (start i) (size i) k ≡ 0
        by_way (inl none) = none
        by_way (inr inside) = absurd (⊎_elim (λ (a : start i + size i ≤ start n). omega (arith, a, inside.1, low)) (λ (b : start n + size n ≤ start i). omega (arith, b, inside.0, high)) (apart i n (omega (arith, lt)) (omega arith) (λ e. omega (arith, e, lt))))

    by_last : (lies (start n) (size n) k ≡ 0) ⊎ ((start n ≤ k) × (k < start n + size n)) → sum_below (λ i. lies (start i) (size i) k) n ≤ 1 → lies (start n) (size n) k + sum_below (λ i. lies (start i) (size i) k) n ≤ 1
    by_last (inl none) rest = omega (arith, none, rest)
    by_last (inr inside) rest =
        let others = sum_none (λ i. lies (start i) (size i) k) n (λ i lt. outside i lt inside.0 inside.1) in
        let one = lies_most (start n) (size n) k in
        omega (arith, others, one)

-- Stretches that are apart and end below a bound are no longer together than that.
pub apart_below : (start size : ℕ → ℕ) (n bound : ℕ) → ((i : ℕ) → i < n → start i + size i ≤ bound) → ((i j : ℕ) → i < n → j < n → i ≢ j → AreApart start size i j) → sum_below size n ≤ bound
apart_below start size n bound inside apart =
    let each = sum_most size (λ i. sum_below (lies (start i) (size i)) bound) n (λ i lt. lies_all (start i) (size i) bound (inside i lt)) in
    let swap = sum_swap (λ i. lies (start i) (size i)) n bound in
    let one = sum_most (λ k. sum_below (λ i. lies (start i) (size i) k) n) (λ k. 1) bound (λ k lt. one_at_most start size n k apart) in
    let ones = sum_ones bound in
    omega (arith, each, swap, one, ones)

-- And no longer than what they lie in.
pub apart_between : (start size : ℕ → ℕ) (n low high : ℕ) → low ≤ high → ((i : ℕ) → i < n → low ≤ start i) → ((i : ℕ) → i < n → start i + size i ≤ high) → ((i j : ℕ) → i < n → j < n → i ≢ j → AreApart start size i j)
    → low + sum_below size n ≤ high
apart_between start size n low high le above inside apart =
    let most = apart_below (λ i. start i - low) size n (high - low) (λ i lt. let a = above i lt in let b = inside i lt in omega (arith, a, b))
    (λ i j a b other. let ai = above i a in let aj = above j b in ⊎_elim (λ (x : start i + size i ≤ start j). inl (omega (arith, x, ai, aj))) (λ (x : start j + size j ≤ start i). inr (omega (arith, x, ai, aj))) (apart i j a b other)) in
    omega (arith, most, le)
