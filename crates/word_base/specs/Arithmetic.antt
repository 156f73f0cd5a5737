-- The arithmetic of RV32IM, as the RISC-V unprivileged ISA has it, chapters "RV32I" and "M".
use Rattle.std.specs.Prelude.{ℕ, ◌+◌, ◌-◌, ◌*◌, ◌/◌, ◌%◌, ◌^◌, ◌==◌, nat_lt, ℤ, pos, negsuc, ◌*ℤ◌, ◌≤ℤ◌, int_div, int_rem, int_lt, if◌then◌else◌}
use Rattle.word_base.specs.Words.{signed_number, word_of, upper_half, shifted_down, word_of_test}

-- ADD: the sum, of which the low 32 bits are kept.
abbrev pub added : ℕ → ℕ → ℕ
added a b = (a + b) % 4294967296

-- SUB: the difference, of which the low 32 bits are kept.
abbrev pub subtracted : ℕ → ℕ → ℕ
subtracted a b = (a + (4294967296 - b)) % 4294967296

-- MUL: the low 32 bits of the product, which are the same for signed and unsigned factors.
abbrev pub multiplied : ℕ → ℕ → ℕ
multiplied a b = a * b % 4294967296

-- MULH: the upper 32 bits of the product of two signed words.
abbrev pub multiplied_high : ℕ → ℕ → ℕ
multiplied_high a b = upper_half (signed_number a *ℤ signed_number b)

-- MULHU: the upper 32 bits of the product of two unsigned words.
abbrev pub multiplied_high_unsigned : ℕ → ℕ → ℕ
multiplied_high_unsigned a b = a * b / 4294967296

-- MULHSU: the upper 32 bits of the product of a signed word and an unsigned one.
abbrev pub multiplied_high_mixed : ℕ → ℕ → ℕ
multiplied_high_mixed a b = upper_half (signed_number a *ℤ pos b)

-- DIV: the quotient of two signed words, rounded toward zero; -1 where the divisor is 0.
-- The one quotient that no signed word says, -2^31 / -1 = 2^31, leaves the word of -2^31, which has the same bits.
abbrev pub divided : ℕ → ℕ → ℕ
divided a b = if b == 0 then 4294967295 else word_of (int_div (signed_number a) (signed_number b))

-- DIVU: the quotient of two unsigned words, rounded down; 2^32 - 1 where the divisor is 0.
abbrev pub divided_unsigned : ℕ → ℕ → ℕ
divided_unsigned a b = if b == 0 then 4294967295 else a / b

-- REM: the remainder of DIV, whose sign is the dividend's; the dividend where the divisor is 0.
abbrev pub remaining : ℕ → ℕ → ℕ
remaining a b = if b == 0 then a else word_of (int_rem (signed_number a) (signed_number b))

-- REMU: the remainder of DIVU; the dividend where the divisor is 0.
abbrev pub remaining_unsigned : ℕ → ℕ → ℕ
remaining_unsigned a b = if b == 0 then a else a % b

-- SLL: shifted left by the low five bits of b, zeros coming in.
abbrev pub shifted_left : ℕ → ℕ → ℕ
shifted_left a b = a * 2 ^ (b % 32) % 4294967296

-- SRL: shifted right by the low five bits of b, zeros coming in.
abbrev pub shifted_right : ℕ → ℕ → ℕ
shifted_right a b = a / 2 ^ (b % 32)

-- SRA: shifted right by the low five bits of b, copies of the sign coming in: the signed number over a power of two,
-- rounded down.
abbrev pub shifted_right_signed : ℕ → ℕ → ℕ
shifted_right_signed a b = word_of (shifted_down (signed_number a) (b % 32))

-- SLT: 1 where a is less than b as signed numbers, and else 0.
abbrev pub less : ℕ → ℕ → ℕ
less a b = word_of_test (int_lt (signed_number a) (signed_number b))

-- SLTU: 1 where a is less than b as unsigned numbers, and else 0.
abbrev pub less_unsigned : ℕ → ℕ → ℕ
less_unsigned a b = word_of_test (nat_lt a b)

-- A number lies in the range of a signed word, -2^31 to 2^31 - 1.
abbrev pub IsSignedWord : ℤ → Type 0
IsSignedWord z = (negsuc 2147483647 ≤ℤ z) × (z ≤ℤ pos 2147483647)
