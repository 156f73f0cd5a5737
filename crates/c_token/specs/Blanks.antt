-- White space within a line, and comments (ISO/IEC 9899:2011, 6.4.9).
use Rattle.std.specs.Prelude.{ℕ, zero, suc, ◌+◌, ◌-◌, ◌==◌, if◌then◌else◌, List, [], ◌∷◌, drop, Option, Some, None, Result, Ok, Err, slice_index, codes}
use Rattle.std.specs.Option.{option_map_or}
use Rattle.debug_records.specs.declared.code.TheConstants.Code.{UNKNOWN_BYTE, UNENDED_COMMENT}
use Rattle.c_token.specs.declared.fault.Fault.{Fault}
use Rattle.c_token.specs.Bytes.{is_blank, text_has, is_replaced}
use Rattle.c_token.specs.Reading.{◌>>=◌, fault}

-- where the comment ends that began with two slashes, read from these bytes on: before the line feed, or at the end of
-- the text
abbrev pub line_comment : List ℕ → ℕ → List ℕ → Result ℕ Fault
line_comment text at [] = Ok at
line_comment text at (b ∷ rest) =
    if b == 10 then Ok at
    else (if is_replaced text at then Err (fault UNKNOWN_BYTE at)
    else line_comment text (at + 1) rest)

-- where the comment ends that began at `start` with a slash and a star, read from these bytes on: behind a star and a
-- slash
abbrev pub block_comment : List ℕ → ℕ → ℕ → List ℕ → Result ℕ Fault
block_comment text start at [] = Err (fault UNENDED_COMMENT start)
block_comment text start at (b ∷ rest) =
    if text_has text at (codes "*/") then Ok (at + 2)
    else (if is_replaced text at then Err (fault UNKNOWN_BYTE at)
    else block_comment text start (at + 1) rest)

-- where the white space or the comment ends that stands at an offset, if one stands there
unfoldable pub blank_at : List ℕ → ℕ → Result (Option ℕ) Fault
blank_at text at =
    if is_blank (slice_index text at) then Ok (Some (at + 1))
    else
    (if text_has text at (codes "//")
    then (line_comment text (at + 2) (drop (at + 2) text) >>= λ end. Ok (Some end))
    else
    (if text_has text at (codes "/*")
    then (block_comment text at (at + 2) (drop (at + 2) text) >>= λ end. Ok (Some end))
    else Ok None))

-- where white space and comments end, from these bytes on, of which the first few belong to a comment before them
abbrev pub blanks_from : List ℕ → ℕ → ℕ → List ℕ → Result ℕ Fault
blanks_from text inside at [] = Ok at
blanks_from text (suc inside) at (b ∷ rest) = blanks_from text inside (at + 1) rest
blanks_from text zero at (b ∷ rest) =
    blank_at text at >>= λ blank. option_map_or (λ end. blanks_from text (end - (at + 1)) (at + 1) rest) blank (Ok at)

-- where the blanks and comments end that begin at a position of the text
unfoldable pub blanks_end : List ℕ → ℕ → Result ℕ Fault
blanks_end text at = blanks_from text 0 at (drop at text)
