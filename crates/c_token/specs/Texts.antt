-- The tokens of a whole text, or its first fault.
use Rattle.std.specs.Prelude.{ℕ, zero, suc, ◌+◌, ◌-◌, ◌==◌, nat_lt, if◌then◌else◌, List, [], ◌∷◌, ◌++◌, length, take, count_by, Result, Ok, Err}
use Rattle.debug_records.specs.declared.code.Code.{Code}
use Rattle.debug_records.specs.declared.code.TheConstants.Code.{TEXT_SIZE}
use Rattle.c_token.specs.declared.context.Context.{Context}
use Rattle.c_token.specs.declared.fault.Fault.{Fault}
use Rattle.c_token.specs.Includes.{context_at_start}
use Rattle.c_token.specs.Items.{Piece, LineFeed, Blank, Token, item_at, context_behind}
use Rattle.c_token.specs.Lexemes.{Word, Lexeme}
use Rattle.c_token.specs.Reading.{◌>>=◌}

-- the line of an offset, from 1: one more than there are line feeds before it
abbrev pub line_of : List ℕ → ℕ → ℕ
line_of text at = 1 + count_by (λ b. b == 10) (take at text)

-- a word that begins at an offset
abbrev pub lexeme_at : List ℕ → ℕ → Word → Lexeme
lexeme_at text at word = record { kind = word; spot = record { at = at; line = line_of text at } }

-- the token that stands at an offset, if what stands there is one
abbrev pub tokens_at : List ℕ → ℕ → Piece → List Lexeme
tokens_at text at LineFeed = []
tokens_at text at Blank = []
tokens_at text at (Token word) = lexeme_at text at word ∷ []

-- a fault with the line of its offset
abbrev pub with_line : {A : Type 0} → List ℕ → Result A Fault → Result A (Code × ℕ)
with_line text (Ok x) = Ok x
with_line text (Err f) = Err (f.code, line_of text f.at)

-- tokens before those of the rest of a text
abbrev pub with_tokens : List Lexeme → Result (List Lexeme) (Code × ℕ) → Result (List Lexeme) (Code × ℕ)
with_tokens front read = read >>= λ more. Ok (front ++ more)

-- the tokens of a text from these bytes on, of which the first few belong to what stands before them
abbrev pub tokens_from : List ℕ → ℕ → ℕ → Context → List ℕ → Result (List Lexeme) (Code × ℕ)
tokens_from text inside at c [] = Ok []
tokens_from text (suc inside) at c (b ∷ rest) = tokens_from text inside (at + 1) c rest
tokens_from text zero at c (b ∷ rest) =
    with_line text (item_at c text at) >>= λ i.
    with_tokens (tokens_at text at i.0) (tokens_from text (i.1 - (at + 1)) (at + 1) (context_behind c i.0) rest)

-- the tokens of a text of at most 1,048,576 bytes, or its first fault and the line of it
unfoldable pub tokens_of : List ℕ → Result (List Lexeme) (Code × ℕ)
tokens_of text = if nat_lt 1048576 (length text) then Err (TEXT_SIZE, 1) else tokens_from text 0 0 context_at_start text
