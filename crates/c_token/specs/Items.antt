-- What stands at an offset between two tokens: white space, a comment or a token.
use Rattle.std.specs.Prelude.{ℕ, ◌+◌, ◌==◌, ◌&&◌, ◌||◌, if◌then◌else◌, Bool, true, List, Result, Ok, Err, slice_index}
use Rattle.std.specs.Option.{option_map_or}
use Rattle.debug_records.specs.declared.code.TheConstants.Code.{UNKNOWN_BYTE}
use Rattle.c_token.specs.declared.context.Context.{Context}
use Rattle.c_token.specs.declared.fault.Fault.{Fault}
use Rattle.c_token.specs.declared.item.Item.{Item}
use Rattle.c_token.specs.declared.item.Item.TheVariants as item
use Rattle.c_token.specs.Bytes.{is_letter, is_digit, is_replaced}
use Rattle.c_token.specs.Blanks.{blank_at}
use Rattle.c_token.specs.Constants.{constant_at}
use Rattle.c_token.specs.Includes.{behind_word, include_at}
use Rattle.c_token.specs.Lexemes.{Word, Constant, Literal, Punctuator, Include, word_view}
use Rattle.c_token.specs.Literals.{literal_at, character_at}
use Rattle.c_token.specs.Punctuators.{punctuator_at}
use Rattle.c_token.specs.Reading.{◌>>=◌, fault}
use Rattle.c_token.specs.Words.{word_at}

-- a line feed, other white space or a comment, or a token
pub data Piece : Type 0 where
  LineFeed : Piece
  Blank : Piece
  Token : (word : Word) → Piece

abbrev pub item_view : Item → Piece
item_view item.LineFeed = LineFeed
item_view item.Blank = Blank
item_view (item.Token kind) = Token (word_view kind)

-- a constant begins with a digit, or with a point and a digit
unfoldable pub begins_constant : List ℕ → ℕ → Bool
begins_constant text at =
    is_digit (slice_index text at) || (slice_index text at == 46 && is_digit (slice_index text (at + 1)))

-- the token at an offset that is no include line, and where it ends: which kind it is, its first byte tells
unfoldable pub plain_token_at : List ℕ → ℕ → Result (Word × ℕ) Fault
plain_token_at text at =
    let b = slice_index text at in
    if is_letter b then word_at text at
    else (if begins_constant text at then (constant_at text at >>= λ c. Ok (Constant c.0, c.1))
    else (if b == 39 then (character_at text at >>= λ c. Ok (Constant c.0, c.1))
    else (if b == 34 then (literal_at text at >>= λ l. Ok (Literal l.0, l.1))
    else punctuator_at text at >>= λ p. Ok (Punctuator p.0, p.1))))

-- the token at an offset, and where it ends; a `#` begins an include line where it is the first token of its line
unfoldable pub token_at : Context → List ℕ → ℕ → Result (Word × ℕ) Fault
token_at c text at =
    if is_replaced text at then Err (fault UNKNOWN_BYTE at)
    else (if slice_index text at == 35 && c.starts_line then (include_at c text at >>= λ h. Ok (Include h.0, h.1))
    else plain_token_at text at)

-- what stands at an offset, and where it ends
unfoldable pub item_at : Context → List ℕ → ℕ → Result (Piece × ℕ) Fault
item_at c text at =
    if slice_index text at == 10 then Ok (LineFeed, at + 1)
    else (blank_at text at >>= λ blank.
    option_map_or (λ end. Ok (Blank, end)) blank (token_at c text at >>= λ t. Ok (Token t.0, t.1)))

-- the context behind what stands at an offset
abbrev pub context_behind : Context → Piece → Context
context_behind c LineFeed = record c { starts_line = true }
context_behind c Blank = c
context_behind c (Token word) = behind_word c word
