-- Names that are marked with numbers.
use Rattle.std.proofs.Common.{◌≡◌, ℕ, zero, suc, ◌+◌, ◌*◌, ◌/◌, ◌%◌, ◌<◌, ◌≤◌, Bool, true, false, ◌&&◌, ◌||◌, List, [], ◌∷◌, ◌++◌, length, get_or, replicate, refl, sym, ap, ◌∙◌, subst, arith, inl, inr}
use Rattle.std.specs.Prelude.{◌==◌, nat_lt, slice_get, slice_index_or, slice_set}
use Rattle.std.proofs.lemmas.Bool.{cases_eq, cases_lt, eq-eqb, ne_eqb, lt-ltb, le-ltb}
use Rattle.std.proofs.lemmas.List.{get_or-set_same, get_or-set_other}
use Rattle.std.proofs.lemmas.Nat.{mod_below, div-mul-add, mod-mul-add}
use Rattle.std.proofs.lemmas.Nat.Bits.{bit_at-zero}
use Rattle.graph_core.specs.Computations.{Computation}
use Rattle.motion_pass_points.specs.Words.{has}
use Rattle.motion_pass_points.specs.Columns.{is_among, is_marked, is_operand}
use Rattle.motion_pass_points.proofs.Telling.{one_number}

module _ (all : List Computation) (index : ℕ) where
  -- before the first
  pub column_first : (names x n : ℕ) → is_marked (replicate names 0) x n ≡ (nat_lt (n % 64) 0 && is_operand all n x)
  column_first names x n = ap (λ w. has w n) (zeros names x) ∙ ap (λ b. b == 1) (bit_at-zero (n % 64)) ∙ sym (ap (λ b. b && is_operand all n x) (le-ltb (n % 64) 0 (omega arith)))
    where
      zeros : (m k : ℕ) → ◌≡◌ {A = ℕ} (get_or (replicate m 0) k 0) 0
      zeros zero k = refl
      zeros (suc m) zero = refl
      zeros (suc m) (suc k) = zeros m k

  none_here : (a q d : Bool) → q ≡ false → (a || (q && d)) ≡ a
  none_here true q d e = refl
  none_here false q d e = ap (λ b. b && d) e

  and_here : (b d : Bool) → b ≡ true → (b && d) ≡ d
  and_here b d e = ap (λ c. c && d) e

  -- one more
  pub column_more : (bit x n : ℕ) → bit < 64 → n / 64 ≡ index → (before after : Bool) → before ≡ (nat_lt (n % 64) bit && is_operand all n x) → after ≡ (before || ((n % 64 == (index * 64 + bit) % 64) && is_operand all (index * 64 + bit) x))
      → after ≡ (nat_lt (n % 64) (bit + 1) && is_operand all n x)
  column_more bit x n lt of before after was is =
      let rest : (index * 64 + bit) % 64 ≡ bit = mod-mul-add index 64 bit lt in
      let quotient : (index * 64 + bit) / 64 ≡ index = div-mul-add index 64 bit lt in
      elim (cases_eq (n % 64) bit) [
        | inl e ↦
            let same : n ≡ index * 64 + bit = one_number n (index * 64 + bit) index of quotient (e ∙ sym rest) in
            is ∙ ap (λ b. b || ((n % 64 == (index * 64 + bit) % 64) && is_operand all (index * 64 + bit) x)) (was ∙ ap (λ b. b && is_operand all n x) (le-ltb (n % 64) bit (omega (arith, e))))
            ∙ and_here (n % 64 == (index * 64 + bit) % 64) (is_operand all (index * 64 + bit) x) (eq-eqb (n % 64) ((index * 64 + bit) % 64) (e ∙ sym rest))
            ∙ ap (λ k. is_operand all k x) (sym same) ∙ sym (and_here (nat_lt (n % 64) (bit + 1)) (is_operand all n x) (lt-ltb (n % 64) (bit + 1) (omega (arith, e))))
        | inr ne ↦
            is ∙ none_here before (n % 64 == (index * 64 + bit) % 64) (is_operand all (index * 64 + bit) x) (ne_eqb (n % 64) ((index * 64 + bit) % 64) (λ q. ne (q ∙ rest))) ∙ was ∙ ap (λ b. b && is_operand all n x) (elim (cases_lt (n % 64) bit) [
              | inl less ↦ lt-ltb (n % 64) bit less ∙ sym (lt-ltb (n % 64) (bit + 1) (omega (arith, less)))
              | inr more ↦ le-ltb (n % 64) bit more ∙ sym (le-ltb (n % 64) (bit + 1) (omega (arith, more, ne)))
            ])
      ]

  -- behind the last
  pub column_last : (x n : ℕ) → (nat_lt (n % 64) 64 && is_operand all n x) ≡ is_operand all n x
  column_last x n = and_here (nat_lt (n % 64) 64) (is_operand all n x) (lt-ltb (n % 64) 64 (mod_below n 64 (omega arith)))
