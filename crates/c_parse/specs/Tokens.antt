-- What a token is, and where things stand.
use Rattle.std.specs.Prelude.{◌≡◌, ℕ, List, ◌∷◌, ◌++◌}
use Rattle.c_token.specs.declared.token.Keyword.{Keyword}
use Rattle.c_token.specs.declared.token.Punctuator.{Punctuator}
use Rattle.c_token.specs.Lexemes.{Lexeme, Word}
use Rattle.c_token.specs.Lexemes as word
use Rattle.c_tree.specs.declared.extent.Extent.{Extent}
use Rattle.c_tree.specs.Expressions.{NameTree}

-- A grammar of things: which things the tokens of the first list, up to those of the second, spell.
abbrev pub Grammar : Type 0 → Type 1
Grammar A = A → (tokens rest : List Lexeme) → Type 0

-- the token is this punctuator
abbrev pub IsPunctuator : Punctuator → Lexeme → Type 0
IsPunctuator p t = t.kind ≡ word.Punctuator p

-- the token is this keyword
abbrev pub IsKeyword : Keyword → Lexeme → Type 0
IsKeyword k t = t.kind ≡ word.Keyword k

-- the token is this name
abbrev pub IsName : NameTree → Lexeme → Type 0
IsName n t = (t.kind ≡ word.Name n.name) × (t.spot ≡ n.spot)

-- where something stands that begins and ends with these tokens
abbrev pub from_to : (first last : Lexeme) → Extent
from_to first last = record { first = first.spot; last = last.spot.at }

-- one or more string literals side by side, their bytes joined (6.4.5p5), and the last of them
pub data AreLiterals : (bytes : List ℕ) → (last : Lexeme) → (tokens rest : List Lexeme) → Type 0 where
  one : {t : Lexeme} {bytes : List ℕ} {rest : List Lexeme} → t.kind ≡ word.Literal bytes
      → AreLiterals bytes t (t ∷ rest) rest
  more : {t last : Lexeme} {bytes part : List ℕ} {ts rest : List Lexeme} → AreLiterals bytes last ts (t ∷ rest)
      → t.kind ≡ word.Literal part
      → AreLiterals (bytes ++ part) t ts rest
