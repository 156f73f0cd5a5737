-- The operations of C on integers, by width and sign: the number that they give, or none where C leaves them undefined
-- (ISO/IEC 9899:2011, 6.5). Both operands have the type already, but for a shift's count.
use Rattle.std.specs.Prelude.{ℕ, ◌^◌, ◌&&◌, ◌==◌, not, ℤ, pos, negsuc, ◌+ℤ◌, ◌-ℤ◌, ◌*ℤ◌, int_div, int_rem, int_le, int_lt, unsigned_abs, bit_and, bit_or, bit_xor, Bool, if◌then◌else◌, Option, Some, None}
use Rattle.word_base.specs.Words.{shifted_down}
use Rattle.word_base.specs.Types.{IntegerType, bits_of, converted, holds, in_range, number_of_bits}

-- A result that is no number of the type is undefined at a signed type, and converted at an unsigned one (6.5p5,
-- 6.2.5p9).
abbrev pub result_of_type : IntegerType → ℤ → Option ℤ
result_of_type t z = if t.is_signed then in_range t z else Some (converted t z)

-- a + b
abbrev pub sum : IntegerType → ℤ → ℤ → Option ℤ
sum t a b = result_of_type t (a +ℤ b)

-- a - b
abbrev pub difference : IntegerType → ℤ → ℤ → Option ℤ
difference t a b = result_of_type t (a -ℤ b)

-- a * b
abbrev pub product : IntegerType → ℤ → ℤ → Option ℤ
product t a b = result_of_type t (a *ℤ b)

-- a / b, rounded toward zero; undefined where b is 0 or the quotient is no number of the type (6.5.5p5)
abbrev pub quotient : IntegerType → ℤ → ℤ → Option ℤ
quotient t a b = if unsigned_abs b == 0 then None else in_range t (int_div a b)

-- a % b, which has the sign of a; undefined where a / b is (6.5.5p6)
abbrev pub remainder : IntegerType → ℤ → ℤ → Option ℤ
remainder t a b =
    if unsigned_abs b == 0 then None
    else (if holds t (int_div a b) then Some (int_rem a b) else None)

-- a shift's count is not negative and less than the width (6.5.7p3)
abbrev pub is_shift_count : IntegerType → ℤ → Bool
is_shift_count t n = int_le (pos 0) n && int_lt n (pos t.width)

-- a << n; undefined at a signed type where a is negative or the result is no number of the type (6.5.7p4)
abbrev pub left_shift : IntegerType → ℤ → ℤ → Option ℤ
left_shift t a n =
    if not (is_shift_count t n) then None
    else (if t.is_signed && int_lt a (pos 0) then None else result_of_type t (a *ℤ pos (2 ^ unsigned_abs n)))

-- a >> n: a over 2^n, rounded down; so it is for a negative a, where C leaves the choice (6.5.7p5)
abbrev pub right_shift : IntegerType → ℤ → ℤ → Option ℤ
right_shift t a n = if is_shift_count t n then Some (shifted_down a (unsigned_abs n)) else None

-- an operation on the bits of two numbers of the type
abbrev pub on_bits : IntegerType → (ℕ → ℕ → ℕ) → ℤ → ℤ → ℤ
on_bits t f a b = number_of_bits t (f (bits_of t a) (bits_of t b))

-- a & b
abbrev pub bits_in_both : IntegerType → ℤ → ℤ → Option ℤ
bits_in_both t a b = Some (on_bits t bit_and a b)

-- a | b
abbrev pub bits_in_either : IntegerType → ℤ → ℤ → Option ℤ
bits_in_either t a b = Some (on_bits t bit_or a b)

-- a ^ b
abbrev pub bits_in_one : IntegerType → ℤ → ℤ → Option ℤ
bits_in_one t a b = Some (on_bits t bit_xor a b)

-- ~a, which is -a - 1
abbrev pub complement : IntegerType → ℤ → Option ℤ
complement t a = Some (converted t (negsuc 0 -ℤ a))

-- -a
abbrev pub negation : IntegerType → ℤ → Option ℤ
negation t a = difference t (pos 0) a

-- the int that a test gives: 1 where it holds, and else 0 (6.5.8p6)
abbrev pub truth : Bool → ℤ
truth b = if b then pos 1 else pos 0

-- a < b
abbrev pub less_than : ℤ → ℤ → ℤ
less_than a b = truth (int_lt a b)

-- a <= b
abbrev pub at_most : ℤ → ℤ → ℤ
at_most a b = truth (int_le a b)

-- a == b
abbrev pub equal_to : ℤ → ℤ → ℤ
equal_to a b = truth (int_le a b && int_le b a)
