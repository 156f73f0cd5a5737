-- Words of 32 bits, as natural numbers, and what they say as signed numbers.
use Rattle.std.specs.Prelude.{ℕ, ◌/◌, ◌^◌, ℤ, pos, negsuc, Bool, if◌then◌else◌}
use Rattle.std.specs.Int.{cast_signed, cast_unsigned, w32, w64}

-- The number that a word says in two's complement.
abbrev pub signed_number : ℕ → ℤ
signed_number a = cast_signed w32 a

-- The word that says a signed number in two's complement.
abbrev pub word_of : ℤ → ℕ
word_of z = cast_unsigned w32 z

-- The upper 32 bits of a signed number of 64 bits.
abbrev pub upper_half : ℤ → ℕ
upper_half z = cast_unsigned w64 z / 4294967296

-- A signed number divided by 2 to the power n and rounded down: `negsuc a` is -(a + 1).
abbrev pub shifted_down : ℤ → ℕ → ℤ
shifted_down (pos a) n = pos (a / 2 ^ n)
shifted_down (negsuc a) n = negsuc (a / 2 ^ n)

-- The word 1 where a test holds, and the word 0 where it does not.
abbrev pub word_of_test : Bool → ℕ
word_of_test b = if b then 1 else 0
