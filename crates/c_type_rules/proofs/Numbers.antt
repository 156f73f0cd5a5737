-- Numbers modulo others.
use Rattle.std.proofs.Common.{◌≡◌, ℕ, Bool, true, false, Some, None, refl}
use Rattle.std.specs.Prelude.{ℤ, pos, negsuc, unsigned_abs, int_lt, ◌*ℤ◌, ◌^◌, ◌&&◌, if◌then◌else◌}
use Rattle.std.specs.Int.{int_rem_euclid}
use Rattle.word_base.specs.Types.{IntegerType, modulo}
use Rattle.word_base.specs.Operations.{is_shift_count, result_of_type, left_shift}

-- the remainder that is not negative is what is left modulo the divisor
pub remainder_is_modulo : (z : ℤ) (m : ℕ) → unsigned_abs (int_rem_euclid z (pos m)) ≡ modulo m z
remainder_is_modulo (pos a) m = refl
remainder_is_modulo (negsuc a) m = refl

-- a count that is one, and its number
counted : (b : Bool) (k n : ℕ) → Some k ≡ (if b then Some n else None) → (b ≡ true) × (k ≡ n)
counted true k n e = (refl, cc)
counted false k n e = cc

-- a left shift by a count of an operand that may be shifted
pub shifts : (t : IntegerType) (a n : ℤ) (k : ℕ) → Some k ≡ (if is_shift_count t n then Some (unsigned_abs n) else None) → (t.is_signed && int_lt a (pos 0)) ≡ false
    → result_of_type t (a *ℤ pos (2 ^ k)) ≡ left_shift t a n
shifts t a n k e f = let both = counted (is_shift_count t n) k (unsigned_abs n) e in simp (both.0, f, both.1) refl
