-- Integer constants (ISO/IEC 9899:2011, 6.4.4.1).
use Rattle.std.specs.Prelude.{ℕ, ◌+◌, ◌*◌, ◌-◌, ◌==◌, ◌&&◌, ◌||◌, not, nat_lt, nat_le, if◌then◌else◌, Bool, true, false, List, [], ◌∷◌, take, drop, fold, Option, Some, None, option_and_then, Result, Ok, Err, codes}
use Rattle.std.specs.List.{prefix_len}
use Rattle.std.specs.Option.{option_map_or}
use Rattle.debug_records.specs.declared.code.TheConstants.Code.{MALFORMED_CONSTANT}
use Rattle.c_token.specs.declared.fault.Fault.{Fault}
use Rattle.c_token.specs.declared.token.Constant.{Constant}
use Rattle.c_token.specs.Bytes.{is_word_byte, text_has}
use Rattle.c_token.specs.Reading.{fault}

-- what a digit stands for; 99 where the byte is none
unfoldable pub digit_value : ℕ → ℕ
digit_value b =
    if nat_le 48 b && nat_le b 57 then b - 48
    else (if nat_le 97 b && nat_le b 102 then b - 87
    else (if nat_le 65 b && nat_le b 70 then b - 55
    else 99))

-- a digit of numbers with this base
abbrev pub is_digit_in : ℕ → ℕ → Bool
is_digit_in base b = nat_lt (digit_value b) base

-- the number that digits spell
abbrev pub value_of : ℕ → List ℕ → ℕ
value_of base digits = fold (λ v b. v * base + digit_value b) 0 digits

-- the letter u or U
unfoldable pub is_u : ℕ → Bool
is_u b = b == 117 || b == 85

-- the letter l or L
unfoldable pub is_l : ℕ → Bool
is_l b = b == 108 || b == 76

-- a u and an l in either case and order, each at most once: whether there is a u, and whether there is an l
unfoldable pub suffix_of : List ℕ → Option (Bool × Bool)
suffix_of [] = Some (false, false)
suffix_of (a ∷ []) = if is_u a then Some (true, false) else (if is_l a then Some (false, true) else None)
suffix_of (a ∷ b ∷ []) = if (is_u a && is_l b) || (is_l a && is_u b) then Some (true, true) else None
suffix_of (a ∷ b ∷ c ∷ rest) = None

-- The constant of a value and a suffix. It is unsigned with a u, and where no signed type of 32 bits has the value;
-- a decimal constant without a u has to fit the signed type.
unfoldable pub typed_constant : Bool → ℕ → Bool × Bool → Option Constant
typed_constant is_decimal value suffix =
    let is_large = nat_lt 2147483647 value in
    if is_decimal && (is_large && not suffix.0) then None
    else Some (record { value = value; is_unsigned = suffix.0 || is_large; is_long = suffix.1 })

-- digits of the base, at least one, that spell a number of at most 32 bits, and a suffix
unfoldable pub constant_in : ℕ → List ℕ → Option Constant
constant_in base word =
    let size = prefix_len (is_digit_in base) word in
    let value = value_of base (take size word) in
    if size == 0 then None
    else (if nat_lt 4294967295 value then None
    else option_and_then (typed_constant (base == 10) value) (suffix_of (drop size word)))

-- hexadecimal behind 0x, octal behind another 0, decimal otherwise
unfoldable pub constant_of : List ℕ → Option Constant
constant_of word =
    if text_has word 0 (codes "0x") || text_has word 0 (codes "0X") then constant_in 16 (drop 2 word)
    else (if text_has word 0 (codes "0") then constant_in 8 word
    else constant_in 10 word)

-- a byte of a constant, right or wrong: a letter, a digit, the underscore or a point
unfoldable pub is_number_byte : ℕ → Bool
is_number_byte b = is_word_byte b || b == 46

-- the constant at an offset, which is the longest run of such bytes there, and where it ends
unfoldable pub constant_at : List ℕ → ℕ → Result (Constant × ℕ) Fault
constant_at text at =
    let size = prefix_len is_number_byte (drop at text) in
    option_map_or (λ c. Ok (c, at + size)) (constant_of (take size (drop at text))) (Err (fault MALFORMED_CONSTANT at))
