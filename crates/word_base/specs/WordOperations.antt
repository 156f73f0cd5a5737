-- The operations that units of the compiler and recipes of the debugger are made of, on words.
use Rattle.std.specs.Prelude.{ℕ, ◌+◌, ◌-◌, ◌/◌, ◌%◌, nat_lt, bit_and, bit_or, bit_xor, if◌then◌else◌}
use Rattle.word_base.specs.Arithmetic.{added, subtracted, multiplied, divided, divided_unsigned, remaining, remaining_unsigned, shifted_left, shifted_right, shifted_right_signed, less, less_unsigned}
use Rattle.word_base.specs.declared.operation.Operation.{Operation}
use Rattle.word_base.specs.declared.operation.Operation.TheVariants.{Add, Sub, Mul, Div, Divu, Rem, Remu, Sll, Srl, Sra, And, Or, Xor, Slt, Sltu}
use Rattle.word_base.specs.declared.operation.Truncation.{Truncation}
use Rattle.word_base.specs.declared.operation.Truncation.TheVariants.{Unsigned8, Signed16, Unsigned16, Signed8}

-- what an operation computes of two words, as RV32IM has it
unfoldable pub word_operation : Operation → (a b : ℕ) → ℕ
word_operation Add a b = added a b
word_operation Sub a b = subtracted a b
word_operation Mul a b = multiplied a b
word_operation Div a b = divided a b
word_operation Divu a b = divided_unsigned a b
word_operation Rem a b = remaining a b
word_operation Remu a b = remaining_unsigned a b
word_operation Sll a b = shifted_left a b
word_operation Srl a b = shifted_right a b
word_operation Sra a b = shifted_right_signed a b
word_operation And a b = bit_and a b
word_operation Or a b = bit_or a b
word_operation Xor a b = bit_xor a b
word_operation Slt a b = less a b
word_operation Sltu a b = less_unsigned a b

-- The word of the signed number that a low part of a word says: from half of its range on it is that range less.
abbrev pub sign_extended : (low range : ℕ) → ℕ
sign_extended low range = if nat_lt low (range / 2) then low else low + (4294967296 - range)

-- what a truncation leaves of a word
unfoldable pub truncated : Truncation → ℕ → ℕ
truncated Unsigned8 w = w % 256
truncated Signed16 w = sign_extended (w % 65536) 65536
truncated Unsigned16 w = w % 65536
truncated Signed8 w = sign_extended (w % 256) 256
