-- Lines that include a header (ISO/IEC 9899:2011, 6.10.2), and what stands before them.
use Rattle.std.specs.Prelude.{ℕ, ◌+◌, ◌-◌, ◌==◌, ◌&&◌, ◌||◌, not, nat_lt, nat_le, if◌then◌else◌, Bool, true, false, List, length, Option, Some, None, Result, Ok, Err, slice_index, codes}
use Rattle.std.specs.Option.{option_map_or}
use Rattle.debug_records.specs.declared.code.TheConstants.Code.{UNKNOWN_DIRECTIVE}
use Rattle.c_token.specs.declared.context.Context.{Context}
use Rattle.c_token.specs.declared.fault.Fault.{Fault}
use Rattle.c_token.specs.declared.token.Header.{Header}
use Rattle.c_token.specs.declared.token.Header.TheVariants.{Stdio, Stdlib}
use Rattle.c_token.specs.declared.token.Punctuator as punctuator
use Rattle.c_token.specs.declared.token.Punctuator.TheVariants as mark
use Rattle.c_token.specs.Bytes.{is_word_byte, text_has}
use Rattle.c_token.specs.Blanks.{blanks_end}
use Rattle.c_token.specs.Lexemes.{Word, Name, Keyword, Constant, Literal, Punctuator, Include}
use Rattle.c_token.specs.Reading.{◌>>=◌, fault}

-- before the first byte: no token on its line, and no brace open
abbrev pub context_at_start : Context
context_at_start = record { starts_line = true; after_parenthesis = false; depth = 0; in_function = false }

-- inside a function: a brace is open, and the outermost open one stands right behind `)`
unfoldable pub is_inside : Context → Bool
is_inside c = nat_lt 0 c.depth && c.in_function

-- behind a token, which is no brace and no `)`
abbrev pub behind_other : Context → Context
behind_other c = record c { starts_line = false; after_parenthesis = false }

-- behind `{`: where no brace was open, it is the outermost one
abbrev pub behind_open_brace : Context → Context
behind_open_brace c =
    record (behind_other c) {
      depth = c.depth + 1;
      in_function = if c.depth == 0 then c.after_parenthesis else c.in_function;
    }

-- behind `}`, which closes a brace if one is open
abbrev pub behind_close_brace : Context → Context
behind_close_brace c = record (behind_other c) { depth = c.depth - 1 }

-- behind a punctuator
abbrev pub behind_punctuator : Context → punctuator.Punctuator → Context
behind_punctuator c mark.CloseParenthesis = record (behind_other c) { after_parenthesis = true }
behind_punctuator c mark.OpenBrace = behind_open_brace c
behind_punctuator c mark.CloseBrace = behind_close_brace c
behind_punctuator c other = behind_other c

-- behind a token
abbrev pub behind_word : Context → Word → Context
behind_word c (Name name) = behind_other c
behind_word c (Keyword keyword) = behind_other c
behind_word c (Constant constant) = behind_other c
behind_word c (Literal bytes) = behind_other c
behind_word c (Punctuator p) = behind_punctuator c p
behind_word c (Include header) = behind_other c

-- the header whose name stands at an offset, and where it ends
unfoldable pub header_at : List ℕ → ℕ → Option (Header × ℕ)
header_at text at =
    if text_has text at (codes "<stdio.h>") then Some (Stdio, at + 9)
    else (if text_has text at (codes "<stdlib.h>") then Some (Stdlib, at + 10)
    else None)

-- the word `include` stands at an offset
unfoldable pub is_include_at : List ℕ → ℕ → Bool
is_include_at text at = text_has text at (codes "include") && not (is_word_byte (slice_index text (at + 7)))

-- a line ends at the offset
unfoldable pub is_line_end : List ℕ → ℕ → Bool
is_line_end text at = nat_le (length text) at || slice_index text at == 10

-- The header that the line from a `#` on includes, and where the line ends. White space and comments may stand behind
-- the `#`, `include` and the name, and nothing else stands on the line; it does not stand inside a function.
unfoldable pub include_at : Context → List ℕ → ℕ → Result (Header × ℕ) Fault
include_at c text at =
    let refused = fault UNKNOWN_DIRECTIVE at in
    blanks_end text (at + 1) >>= λ word.
    (if not (is_include_at text word) then Err refused
    else (blanks_end text (word + 7) >>= λ name.
    option_map_or
    (λ h. blanks_end text h.1
    >>= λ end. (if not (is_line_end text end) || is_inside c then Err refused else Ok (h.0, end)))
    (header_at text name) (Err refused)))
