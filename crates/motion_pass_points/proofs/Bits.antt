-- Sets of numbers in words.
use Rattle.std.proofs.Common.{◌≡◌, ℕ, zero, suc, ◌-◌, ◌*◌, ◌%◌, ◌^◌, ◌<◌, not, ◌&&◌, ◌||◌, bit_and, bit_or, w64, refl, sym, ap, ◌∙◌, arith, inl, inr}
use Rattle.std.specs.Prelude.{◌==◌}
use Rattle.std.specs.Int.{bit_at, bit_not}
use Rattle.std.proofs.lemmas.Bool.{cases_eq, eq-eqb, ne_eqb}
use Rattle.std.proofs.lemmas.Nat.{mod_below, one_shl}
use Rattle.std.proofs.lemmas.Nat.Bits.{bit_at-lt, bit_at_and, bit_at_or, bit_at_not, bit_at-pow_same, bit_at-pow_other}
use Rattle.motion_pass_points.specs.Words.{has}
use Rattle.base_laws.proofs.Numbers.{max_one, min_one}

not_one : (x : ℕ) → x < 2 → (1 - x == 1) ≡ not (x == 1)
not_one zero p = refl
not_one (suc zero) p = refl
not_one (suc (suc x)) p = absurd (omega (arith, p))

pub has_or : (a b n : ℕ) → has (bit_or a b) n ≡ (has a n || has b n)
has_or a b n = ap (λ m. m == 1) (bit_at_or a b (n % 64)) ∙ max_one (bit_at a (n % 64)) (bit_at b (n % 64)) (bit_at-lt a (n % 64)) (bit_at-lt b (n % 64))

pub has_and : (a b n : ℕ) → has (bit_and a b) n ≡ (has a n && has b n)
has_and a b n = ap (λ m. m == 1) (bit_at_and a b (n % 64)) ∙ min_one (bit_at a (n % 64)) (bit_at b (n % 64)) (bit_at-lt a (n % 64)) (bit_at-lt b (n % 64))

pub has_not : (a n : ℕ) → a < 2 ^ 64 → has (bit_not w64 a) n ≡ not (has a n)
has_not a n lt = ap (λ m. m == 1) (bit_at_not w64 a (n % 64) lt (mod_below n 64 (omega arith))) ∙ not_one (bit_at a (n % 64)) (bit_at-lt a (n % 64))

pub has_without : (a b n : ℕ) → b < 2 ^ 64 → has (bit_and a (bit_not w64 b)) n ≡ (has a n && not (has b n))
has_without a b n lt = has_and a (bit_not w64 b) n ∙ ap (λ c. has a n && c) (has_not b n lt)

pub has_only : (k n : ℕ) → has (1 * 2 ^ (k % 64) % 2 ^ 64) n ≡ (n % 64 == k % 64)
has_only k n = ap (λ w. bit_at w (n % 64) == 1) (one_shl (k % 64) 64 (mod_below k 64 (omega arith))) ∙ elim (cases_eq (n % 64) (k % 64)) [
  | inl e ↦ ap (λ i. bit_at (2 ^ (k % 64)) i == 1) e ∙ ap (λ m. m == 1) (bit_at-pow_same (k % 64)) ∙ sym (eq-eqb (n % 64) (k % 64) e)
  | inr ne ↦ ap (λ m. m == 1) (bit_at-pow_other (k % 64) (n % 64) ne) ∙ sym (ne_eqb (n % 64) (k % 64) ne)
]
