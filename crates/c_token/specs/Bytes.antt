-- Bytes of a text.
use Rattle.std.specs.Prelude.{ℕ, ◌+◌, ◌==◌, ◌||◌, ◌&&◌, nat_le, Bool, List, length, take, drop, slice_index, codes}
use Rattle.std.specs.Str.{bytes_eq}

-- a letter or the underscore
unfoldable pub is_letter : ℕ → Bool
is_letter b = (nat_le 65 b && nat_le b 90) || ((nat_le 97 b && nat_le b 122) || b == 95)

-- a decimal digit
unfoldable pub is_digit : ℕ → Bool
is_digit b = nat_le 48 b && nat_le b 57

-- a byte of an identifier
unfoldable pub is_word_byte : ℕ → Bool
is_word_byte b = is_letter b || is_digit b

-- white space within a line: space, tab, vertical tab, form feed and carriage return
unfoldable pub is_blank : ℕ → Bool
is_blank b = b == 32 || (b == 9 || (nat_le 11 b && nat_le b 13))

-- these bytes stand at the offset
unfoldable pub text_has : List ℕ → ℕ → List ℕ → Bool
text_has text at word = bytes_eq word (take (length word) (drop at text))

-- one of = / ' ( ) ! < > -
unfoldable pub is_trigraph_end : ℕ → Bool
is_trigraph_end b =
    b == 61 || (b == 47 || (b == 39 || (b == 40 || (b == 41 || (b == 33 || (b == 60 || (b == 62 || b == 45)))))))

-- A backslash directly before a line feed, or the beginning of a trigraph: what C replaces before it reads tokens
-- (ISO/IEC 9899:2011, 5.1.1.2). The language has neither.
unfoldable pub is_replaced : List ℕ → ℕ → Bool
is_replaced text at =
    text_has text at (codes "\\\n") || (text_has text at (codes "??") && is_trigraph_end (slice_index text (at + 2)))
