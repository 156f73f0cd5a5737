-- The integer types of C, by width and sign (ISO/IEC 9899:2011, 6.2.5 and 6.2.6.2, in two's complement).
use Rattle.std.specs.Prelude.{ℕ, ◌-◌, ◌%◌, ◌^◌, ◌&&◌, nat_le, ℤ, pos, negsuc, ◌-ℤ◌, int_le, Bool, true, false, if◌then◌else◌, Option, Some, None}

-- An integer type has a width in bits, and has negative numbers or has none.
pub record IntegerType : Type 0 where
  pub width : ℕ
  pub is_signed : Bool

-- char, which has no negative numbers here, and unsigned char
abbrev pub char_type : IntegerType
char_type = record { width = 8; is_signed = false }

-- signed char
abbrev pub signed_char_type : IntegerType
signed_char_type = record { width = 8; is_signed = true }

-- short
abbrev pub short_type : IntegerType
short_type = record { width = 16; is_signed = true }

-- unsigned short
abbrev pub unsigned_short_type : IntegerType
unsigned_short_type = record { width = 16; is_signed = false }

-- int and long
abbrev pub int_type : IntegerType
int_type = record { width = 32; is_signed = true }

-- unsigned int and unsigned long
abbrev pub unsigned_type : IntegerType
unsigned_type = record { width = 32; is_signed = false }

-- the least number of the type: 0, or -2^(N-1) at a width of N
abbrev pub least_number : IntegerType → ℤ
least_number t = if t.is_signed then negsuc (2 ^ (t.width - 1) - 1) else pos 0

-- the greatest number of the type: 2^(N-1) - 1, or 2^N - 1
abbrev pub greatest : IntegerType → ℤ
greatest t = if t.is_signed then pos (2 ^ (t.width - 1) - 1) else pos (2 ^ t.width - 1)

-- the number is one of the type
abbrev pub holds : IntegerType → ℤ → Bool
holds t z = int_le (least_number t) z && int_le z (greatest t)

-- what is left of a number modulo m, from 0 to m - 1: `negsuc n` is -(n + 1)
abbrev pub modulo : ℕ → ℤ → ℕ
modulo m (pos n) = n % m
modulo m (negsuc n) = m - 1 - n % m

-- the bits of a number in the width of the type, in two's complement
abbrev pub bits_of : IntegerType → ℤ → ℕ
bits_of t z = modulo (2 ^ t.width) z

-- the number of the type that has these bits
abbrev pub number_of_bits : IntegerType → ℕ → ℤ
number_of_bits t bits =
    if t.is_signed && nat_le (2 ^ (t.width - 1)) bits then pos bits -ℤ pos (2 ^ t.width) else pos bits

-- A number converted to the type: the one of the type that differs from it by a multiple of 2^N (6.3.1.3).
abbrev pub converted : IntegerType → ℤ → ℤ
converted t z = number_of_bits t (bits_of t z)

-- a number of the type, or undefined
abbrev pub in_range : IntegerType → ℤ → Option ℤ
in_range t z = if holds t z then Some z else None
