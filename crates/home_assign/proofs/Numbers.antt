-- The registers that may be homes, by their numbers.
use Rattle.std.proofs.Common.{◌≡◌, ℕ, zero, suc, ◌+◌, ◌-◌, ◌<◌, ◌⊎◌, inl, inr, Some, List, map, sym, ap, ◌∙◌, refl, arith}
use Rattle.std.specs.Prelude.{slice_get}
use Rattle.std.specs.List.{range_with_len}
use Rattle.std.proofs.lemmas.Option.{same_Some, slice_get-get_or, slice_get_within}
use Rattle.bit_rows.proofs.Bits.{at_index}
use Rattle.graph_homes.specs.Frames.{home_registers}
use Rattle.graph_homes.specs.Homed.{IsHomeRegister}
pub use Rattle.base_laws.proofs.Lists.{all_there as all_at}

behind_first : List ℕ
behind_first = map (λ k. 18 + k) (range_with_len 0 14)

register_at : (k : ℕ) → k < 14 → slice_get home_registers (suc k) ≡ Some (18 + k)
unfolding behind_first
register_at k lt = slice_get-get_or behind_first k 0 lt ∙ ap (λ r. Some r) (at_index (λ k. 18 + k) 14 k 0 lt)

-- the first is s1, each further one is told by its number
pub number_is : (k r : ℕ) → slice_get home_registers k ≡ Some r → ((k ≡ 0) × (r ≡ 9)) ⊎ ((0 < k) × (r ≡ 17 + k))
number_is zero r is = inl (refl, sym (same_Some 9 r is))
number_is (suc k) r is =
    let lt : k < 14 = omega (arith, slice_get_within home_registers (suc k) r is) in
    let e : r ≡ 18 + k = same_Some r (18 + k) (sym is ∙ register_at k lt) in
    inr (omega arith, omega (arith, e))

-- no register has two numbers
pub number_same : (j k r : ℕ) → slice_get home_registers j ≡ Some r → slice_get home_registers k ≡ Some r → j ≡ k
number_same j k r is also = elim (number_is j r is) [
  | inl a ↦ elim (number_is k r also) [ inl b ↦ omega (arith, a.0, b.0) | inr b ↦ omega (arith, a.1, b.0, b.1) ]
  | inr a ↦ elim (number_is k r also) [ inl b ↦ omega (arith, a.0, a.1, b.1) | inr b ↦ omega (arith, a.1, b.1) ]
]

-- each register that may be a home has a number
pub number_of_home : (r : ℕ) → IsHomeRegister r → (k : ℕ) × (slice_get home_registers k ≡ Some r)
number_of_home r (inl e) = (0, ap (λ q. Some q) (sym e))
number_of_home r (inr h) =
    let e : 18 + (r - 18) ≡ r = omega (arith, h.0) in
    (suc (r - 18), register_at (r - 18) (omega (arith, h.0, h.1)) ∙ ap (λ q. Some q) e)
