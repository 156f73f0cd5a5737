-- Worked values of C's operations.
use Rattle.std.specs.Prelude.{◌≡◌, pos, negsuc, Some, None}
use Rattle.word_base.specs.Types.{char_type, converted, int_type, signed_char_type, unsigned_type}
use Rattle.word_base.specs.Operations.{bits_in_one, complement, difference, left_shift, negation, product, quotient, remainder, right_shift, sum}

-- What the operations give at the ends of their types.
pub record AreWorked : Type 0 where
  -- 2147483647 + 1 is undefined in int, and 4294967295 + 1 is 0 in unsigned int
  pub int_overflow : sum int_type (pos 2147483647) (pos 1) ≡ None
  pub unsigned_wrap : sum unsigned_type (pos 4294967295) (pos 1) ≡ Some (pos 0)
  pub unsigned_below : difference unsigned_type (pos 0) (pos 1) ≡ Some (pos 4294967295)
  pub least_negated : negation int_type (negsuc 2147483647) ≡ None
  pub least_product : product int_type (negsuc 65535) (pos 32768) ≡ Some (negsuc 2147483647)
  -- -7 / 2 is -3 and -7 % 2 is -1; nothing is divided by 0; -2147483648 / -1 and its remainder are undefined
  pub quotient_toward_zero : quotient int_type (negsuc 6) (pos 2) ≡ Some (negsuc 2)
  pub remainder_sign : remainder int_type (negsuc 6) (pos 2) ≡ Some (negsuc 0)
  pub zero_divisor : quotient unsigned_type (pos 1) (pos 0) ≡ None
  pub quotient_overflow : quotient int_type (negsuc 2147483647) (negsuc 0) ≡ None
  pub remainder_overflow : remainder int_type (negsuc 2147483647) (negsuc 0) ≡ None
  -- shifts
  pub left_overflow : left_shift int_type (pos 1) (pos 31) ≡ None
  pub left_greatest : left_shift int_type (pos 1) (pos 30) ≡ Some (pos 1073741824)
  pub left_unsigned : left_shift unsigned_type (pos 3) (pos 31) ≡ Some (pos 2147483648)
  pub left_negative : left_shift int_type (negsuc 0) (pos 0) ≡ None
  pub count_too_large : right_shift unsigned_type (pos 1) (pos 32) ≡ None
  pub count_negative : left_shift unsigned_type (pos 1) (negsuc 0) ≡ None
  pub right_negative : right_shift int_type (negsuc 6) (pos 1) ≡ Some (negsuc 3)
  -- bits
  pub complement_of_zero : complement unsigned_type (pos 0) ≡ Some (pos 4294967295)
  pub complement_signed : complement int_type (pos 5) ≡ Some (negsuc 5)
  pub signs_differ : bits_in_one int_type (negsuc 0) (pos 1) ≡ Some (negsuc 1)
  -- conversions: -1 to char is 255, 200 to signed char is -56, -2147483649 to int is 2147483647
  pub to_char : converted char_type (negsuc 0) ≡ pos 255
  pub to_signed_char : converted signed_char_type (pos 200) ≡ negsuc 55
  pub to_int : converted int_type (negsuc 2147483648) ≡ pos 2147483647
