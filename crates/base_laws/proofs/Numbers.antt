-- Numbers.
use Rattle.std.proofs.Common.{Bool, ap, arith, bit_and, cond, eqb, false, inl, inr, max, min, nat_cmp, nat_le, nat_lt, negsuc, pos, refl, suc, sym, true, zero, ℕ, ℤ, ◌&&◌, ◌*◌, ◌+◌, ◌-ℤ◌, ◌-◌, ◌/◌, ◌<◌, ◌==◌, ◌^◌, ◌||◌, ◌∙◌, ◌≡◌, ◌≤◌}
use Rattle.std.proofs.lemmas.Bool.{cases_order, eq-eqb, leb-true, ne_eqb}
use Rattle.std.proofs.lemmas.Bool.Decides.{eqb_tells, nat_tests}
use Rattle.std.proofs.lemmas.Int.{ints}
use Rattle.std.proofs.lemmas.Nat.{and_le_l}
use Rattle.std.specs.Cmp.{nat_cmp_is}
use Rattle.std.specs.Ordering.{is_eq, ordering_then}
use Rattle.std.specs.Prelude.{if◌then◌else◌, int_le, nat_le, nat_lt, ◌&&◌, ◌==◌}
use Rattle.std.specs.declared.cmp.Ordering.{Ordering}
use Rattle.std.specs.declared.cmp.Ordering.TheVariants.{Equal, Greater, Less}

pub are_equal : (a b : ℕ) → (a == b) ≡ true → a ≡ b
are_equal a b h = grind (arith, nat_tests)

pub at_most : (a b : ℕ) → nat_le a b ≡ true → a ≤ b
at_most a b h = grind (arith, nat_tests)

pub false_true : false ≡ true → ⊥
false_true e = cc

pub is_less : (a b : ℕ) → nat_lt a b ≡ true → a < b
is_less a b h = grind (arith, nat_tests)

pub less : (a b : ℕ) → a < b → nat_lt a b ≡ true
less a b h = grind (arith, nat_tests, h)

pub not_less : (a b : ℕ) → nat_lt a b ≡ false → b ≤ a
not_less a b h = grind (arith, nat_tests)

pub is_eq-ordering_then : (a b : Ordering) → is_eq (ordering_then a b) ≡ (is_eq a && is_eq b)
is_eq-ordering_then Less b = refl
is_eq-ordering_then Equal b = refl
is_eq-ordering_then Greater b = refl

pub not_before : (a b : ℕ) → b ≤ a → nat_lt a b ≡ false
not_before a b h = grind (arith, nat_tests)

pub no_entry : true ≡ false → ⊥
no_entry e = cc

pub same_is : (y : ℕ) → (y == y) ≡ true
same_is y = grind (arith, Rattle.std.proofs.lemmas.Bool.Decides.nat_tests)

pub is_most : (a b : ℕ) → a ≤ b → nat_le a b ≡ true
is_most a b h = grind (arith, nat_tests, h)

pub chosen_fits : (b : Bool) (x y : ℕ) → x < 4294967296 → y < 4294967296 → cond b x y < 4294967296
chosen_fits true x y hx hy = hx
chosen_fits false x y hx hy = hy

pub same_number : (a b : ℕ) → is_eq (nat_cmp a b) ≡ eqb a b
same_number a b = elim (cases_order a b) [
  | inl same ↦ ap is_eq (sym (nat_cmp_is a b Equal same)) ∙ sym (eq-eqb a b same)
  | inr apart ↦ elim apart [
    | inl less ↦ ap is_eq (sym (nat_cmp_is a b Less less)) ∙ sym (ne_eqb a b (λ e. omega (arith, e, less)))
    | inr more ↦ ap is_eq (sym (nat_cmp_is a b Greater more)) ∙ sym (ne_eqb a b (λ e. omega (arith, e, more)))
  ]
]

pub no : {A : Type 0} → false ≡ true → A
no e = absurd cc

pub max_one : (x y : ℕ) → x < 2 → y < 2 → (max x y == 1) ≡ ((x == 1) || (y == 1))
max_one zero zero p q = refl
max_one zero (suc zero) p q = refl
max_one (suc zero) zero p q = refl
max_one (suc zero) (suc zero) p q = refl
max_one zero (suc (suc y)) p q = absurd (omega (arith, q))
max_one (suc zero) (suc (suc y)) p q = absurd (omega (arith, q))
max_one (suc (suc x)) y p q = absurd (omega (arith, p))

pub min_one : (x y : ℕ) → x < 2 → y < 2 → (min x y == 1) ≡ ((x == 1) && (y == 1))
min_one zero zero p q = refl
min_one zero (suc zero) p q = refl
min_one (suc zero) zero p q = refl
min_one (suc zero) (suc zero) p q = refl
min_one zero (suc (suc y)) p q = absurd (omega (arith, q))
min_one (suc zero) (suc (suc y)) p q = absurd (omega (arith, q))
min_one (suc (suc x)) y p q = absurd (omega (arith, p))

pub same_turned : (a b : ℕ) → (a == b) ≡ (b == a)
same_turned a b = elim (eqb_tells a b) [ inl h ↦ h.0 ∙ sym (eq-eqb b a (sym h.1)) | inr h ↦ h.0 ∙ sym (ne_eqb b a (λ q. h.1 (sym q))) ]

pub same_number_again : (a b : ℕ) → is_eq (nat_cmp a b) ≡ (a == b)
same_number_again a b = elim (cases_order a b) [
  | inl same ↦ ap is_eq (sym (nat_cmp_is a b Equal same)) ∙ sym (eq-eqb a b same)
  | inr apart ↦ elim apart [
    | inl less ↦ ap is_eq (sym (nat_cmp_is a b Less less)) ∙ sym (ne_eqb a b (λ e. omega (arith, e, less)))
    | inr more ↦ ap is_eq (sym (nat_cmp_is a b Greater more)) ∙ sym (ne_eqb a b (λ e. omega (arith, e, more)))
  ]
]

pub eq_same : (n : ℕ) → (n == n) ≡ true
eq_same n = eq-eqb n n refl

pub counted_yes : (b : Bool) (r : ℕ) → b ≡ true → (if b then 1 else 0) + r ≡ suc r
counted_yes b r e = (let z : 1 + r ≡ suc r = omega arith in ap (λ c. (if c then 1 else 0) + r) e ∙ z)

pub same_size : (k : ℕ) → k == k ≡ true
same_size k = grind (arith, nat_tests)

pub least : (m n : ℕ) → m ≤ n → nat_le m n ≡ true
least m n le = grind (arith, nat_tests, le)

pub and_lt : (m n : ℕ) → m < 2 ^ 32 → n < 2 ^ 32 → bit_and m n < 2 ^ 32
and_lt m n hm hn = let le = and_le_l m n in omega (arith, le, hm)

pub times_within : (i count size : ℕ) → i ≤ count → i * size ≤ count * size
times_within i count size le = grind (arith, le)

pub up_to : (m k : ℕ) → m ≤ k → int_le (pos 0) (pos m) && int_le (pos m) (pos k) ≡ true
up_to m k le =
    let a : int_le (pos 0) (pos m) ≡ true = grind (arith, nat_tests) in
    let b : int_le (pos m) (pos k) ≡ true = grind (arith, nat_tests, le) in
    ap (λ c. c && int_le (pos m) (pos k)) a ∙ b

pub by_sign : (half range low : ℕ) → range ≡ half + half → 0 < half → low < range → (b : Bool) → nat_le half low ≡ b → int_le (negsuc (half - 1)) (if b then pos low -ℤ pos range else pos low) && int_le (if b then pos low -ℤ pos range else pos low) (pos (half - 1)) ≡ true
by_sign half range low two some lt true e = under (pos low -ℤ pos range) refl
  where
    le : half ≤ low
    le = leb-true half low e

    under : (y : ℤ) → pos low -ℤ pos range ≡ y → int_le (negsuc (half - 1)) y && int_le y (pos (half - 1)) ≡ true
    under (pos n) h = absurd (omega (arith, ints, lt, h))
    under (negsuc n) h = let l = le in let k : n ≤ half - 1 = omega (arith, ints, two, l, lt, h) in let a : int_le (negsuc (half - 1)) (negsuc n) ≡ true = grind (arith, nat_tests, k) in ap (λ c. c && int_le (negsuc n) (pos (half - 1))) a
by_sign half range low two some lt false e =
    let k : low < half = grind (arith, nat_tests, e) in
    let le : low ≤ half - 1 = omega (arith, k) in
    grind (arith, nat_tests, le)

pub same_step : (a b : ℕ) → ((a == a) && (b == b)) ≡ true
same_step a b = grind (arith, nat_tests)

pub rounded : (n : ℕ) → n ≤ (n + 3) / 4 * 4 + 4
rounded n = omega arith

pub at_least : (a b : ℕ) → nat_lt a b ≡ false → nat_le b a ≡ true
at_least a b h = grind (arith, nat_tests)
