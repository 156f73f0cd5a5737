use Rattle.std.proofs.Common.{refl}
use Rattle.word_base.proofs.laws.operations_are_worked.Goals as goal

pub returns : goal.returns
returns c = record {
  int_overflow = refl;
  unsigned_wrap = refl;
  unsigned_below = refl;
  least_negated = refl;
  least_product = refl;
  quotient_toward_zero = refl;
  remainder_sign = refl;
  zero_divisor = refl;
  quotient_overflow = refl;
  remainder_overflow = refl;
  left_overflow = refl;
  left_greatest = refl;
  left_unsigned = refl;
  left_negative = refl;
  count_too_large = refl;
  count_negative = refl;
  right_negative = refl;
  complement_of_zero = refl;
  complement_signed = refl;
  signs_differ = refl;
  to_char = refl;
  to_signed_char = refl;
  to_int = refl;
}
