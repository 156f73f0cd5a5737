-- Character constants and string literals (ISO/IEC 9899:2011, 6.4.4.4 and 6.4.5).
use Rattle.std.specs.Prelude.{ℕ, zero, suc, ◌+◌, ◌-◌, ◌==◌, ◌&&◌, not, nat_lt, nat_le, if◌then◌else◌, false, List, [], ◌∷◌, ◌++◌, length, take, drop, Option, Some, None, Result, Ok, Err, slice_index}
use Rattle.std.specs.List.{prefix_len}
use Rattle.std.specs.Option.{option_map_or}
use Rattle.debug_records.specs.declared.code.Code.{Code}
use Rattle.debug_records.specs.declared.code.TheConstants.Code.{UNKNOWN_BYTE, MALFORMED_LITERAL, MALFORMED_CONSTANT, UNKNOWN_ESCAPE}
use Rattle.c_token.specs.declared.fault.Fault.{Fault}
use Rattle.c_token.specs.declared.token.Constant.{Constant}
use Rattle.c_token.specs.Bytes.{is_replaced}
use Rattle.c_token.specs.Constants.{is_digit_in, value_of}
use Rattle.c_token.specs.Reading.{◌>>=◌, fault, fault_at}

-- the byte behind a backslash, and the byte that both stand for: a, b, f, n, r, t, v, and four that stand for
-- themselves
abbrev pub simple_escapes : List (ℕ × ℕ)
simple_escapes =
    (97, 7) ∷ (98, 8) ∷ (102, 12) ∷ (110, 10) ∷ (114, 13) ∷ (116, 9) ∷ (118, 11) ∷ (92, 92) ∷ (39, 39) ∷ (34, 34)
    ∷ (63, 63) ∷ []

-- the byte that a table gives for a byte
abbrev pub find_byte : List (ℕ × ℕ) → ℕ → Option ℕ
find_byte [] b = None
find_byte (e ∷ table) b = if e.0 == b then Some e.1 else find_byte table b

-- the character that a backslash and one letter stand for, if they stand for one (C11 6.4.4.4)
unfoldable pub simple_escape : ℕ → Option ℕ
simple_escape b = find_byte simple_escapes b

-- the byte whose value the digits spell
unfoldable pub byte_of : ℕ → List ℕ → Result ℕ Code
byte_of base digits = if nat_lt 255 (value_of base digits) then Err MALFORMED_CONSTANT else Ok (value_of base digits)

-- the byte of one to three octal digits at an offset, and where they end
unfoldable pub octal_escape : List ℕ → ℕ → Result (ℕ × ℕ) Code
octal_escape text at =
    let size = prefix_len (is_digit_in 8) (take 3 (drop at text)) in
    byte_of 8 (take size (drop at text)) >>= λ b. Ok (b, at + size)

-- the byte of one or more hexadecimal digits at an offset, and where they end
unfoldable pub hexadecimal_escape : List ℕ → ℕ → Result (ℕ × ℕ) Code
hexadecimal_escape text at =
    let size = prefix_len (is_digit_in 16) (drop at text) in
    if size == 0 then Err UNKNOWN_ESCAPE
    else (byte_of 16 (take size (drop at text)) >>= λ b. Ok (b, at + size))

-- the byte that an escape stands for whose bytes behind the backslash begin at an offset, and where they end
unfoldable pub escape_at : List ℕ → ℕ → Result (ℕ × ℕ) Code
escape_at text at =
    let b = slice_index text at in
    if nat_le (length text) at then Err MALFORMED_LITERAL
    else (if b == 120 then hexadecimal_escape text (at + 1)
    else (if nat_le 48 b && nat_le b 55 then octal_escape text at
    else option_map_or (λ v. Ok (v, at + 1)) (simple_escape b) (Err UNKNOWN_ESCAPE)))

-- The byte that is spelled at an offset of a literal that began at `start`, and where its spelling ends: itself, or an
-- escape. A literal holds no line end.
unfoldable pub unit_at : List ℕ → ℕ → ℕ → Result (ℕ × ℕ) Fault
unit_at text start at =
    let b = slice_index text at in
    if b == 10 then Err (fault MALFORMED_LITERAL start)
    else (if is_replaced text at then Err (fault UNKNOWN_BYTE at)
    else (if not (b == 92) then Ok (b, at + 1)
    else (if is_replaced text (at + 1) then Err (fault UNKNOWN_BYTE (at + 1))
    else fault_at start (escape_at text (at + 1)))))

-- bytes before those of the rest of a literal
abbrev pub with_bytes : List ℕ → Result (List ℕ × ℕ) Fault → Result (List ℕ × ℕ) Fault
with_bytes front read = read >>= λ more. Ok (front ++ more.0, more.1)

-- The bytes of a literal that began at `start` with this quote, and where it ends, read from these bytes on, of which
-- the first few belong to an escape before them.
abbrev pub literal_from : List ℕ → ℕ → ℕ → ℕ → ℕ → List ℕ → Result (List ℕ × ℕ) Fault
literal_from text quote start inside at [] = Err (fault MALFORMED_LITERAL start)
literal_from text quote start (suc inside) at (b ∷ rest) = literal_from text quote start inside (at + 1) rest
literal_from text quote start zero at (b ∷ rest) =
    if b == quote then Ok ([], at + 1)
    else
    (unit_at text start at
    >>= λ u. with_bytes (u.0 ∷ []) (literal_from text quote start (u.1 - (at + 1)) (at + 1) rest))

-- the bytes of the literal at an offset, and where it ends
unfoldable pub literal_at : List ℕ → ℕ → Result (List ℕ × ℕ) Fault
literal_at text at = literal_from text (slice_index text at) at 0 (at + 1) (drop (at + 1) text)

-- the int of one byte
abbrev pub character : ℕ → Constant
character b = record { value = b; is_unsigned = false; is_long = false }

-- the only byte of a literal
abbrev pub only_byte : ℕ → List ℕ → Result ℕ Fault
only_byte at [] = Err (fault MALFORMED_LITERAL at)
only_byte at (b ∷ []) = Ok b
only_byte at (b ∷ c ∷ rest) = Err (fault MALFORMED_LITERAL at)

-- the character constant at an offset, and where it ends
unfoldable pub character_at : List ℕ → ℕ → Result (Constant × ℕ) Fault
character_at text at = literal_at text at >>= λ l. only_byte at l.0 >>= λ b. Ok (character b, l.1)
