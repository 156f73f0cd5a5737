-- Conversions of integers as words (ISO/IEC 9899:2011, 6.3.1.3).
use Rattle.std.specs.Prelude.{ℕ, ◌==◌, ◌&&◌, ◌||◌, not, int_le, Bool, false, ℤ, pos}
use Rattle.word_base.specs.Types.{bits_of, converted, greatest, least_number, unsigned_type}
use Rattle.c_tree.specs.declared.types.IntegerType.{IntegerType}
use Rattle.c_type_rules.specs.Integers.{integer}
use Rattle.graph_core.specs.Graphs.{Operand, Name, Constant, StaticAddress}

-- the word of a number
abbrev pub unsigned_bits : ℤ → ℕ
unsigned_bits z = bits_of unsigned_type z

-- a type of less than 32 bits
abbrev pub is_narrow : IntegerType → Bool
is_narrow t = not ((integer t).width == 32)

-- each number of a type is one of another
abbrev pub is_within : (one other : IntegerType) → Bool
is_within t u =
    int_le (least_number (integer u)) (least_number (integer t)) && int_le (greatest (integer t)) (greatest (integer u))

-- A conversion changes the word of no number of a type: it is to a type of 32 bits, or to one that has all its numbers.
abbrev pub keeps_bits : (from to : IntegerType) → Bool
keeps_bits t u = not (is_narrow u) || is_within t u

-- a constant whose word a conversion does not change
abbrev pub is_kept_constant : (to : IntegerType) → Operand → Bool
is_kept_constant t (Constant w) = unsigned_bits (converted (integer t) (pos w)) == w
is_kept_constant t (Name x) = false
is_kept_constant t (StaticAddress o k) = false
