-- Punctuators (ISO/IEC 9899:2011, 6.4.6).
use Rattle.std.specs.Prelude.{ℕ, ◌+◌, ◌&&◌, nat_lt, if◌then◌else◌, List, [], ◌∷◌, length, Bool, Option, Some, None, Result, Ok, Err, codes}
use Rattle.std.specs.List.{list_any}
use Rattle.std.specs.Option.{option_map_or}
use Rattle.debug_records.specs.declared.code.TheConstants.Code.{UNKNOWN_BYTE}
use Rattle.c_token.specs.declared.fault.Fault.{Fault}
use Rattle.c_token.specs.declared.token.Punctuator.{Punctuator}
use Rattle.c_token.specs.declared.token.Punctuator.TheVariants as mark
use Rattle.c_token.specs.Bytes.{text_has}
use Rattle.c_token.specs.Reading.{fault}

-- the punctuators and how each is spelled, the longer ones first
abbrev pub punctuators : List (List ℕ × Punctuator)
punctuators =
    (codes "<<=", mark.ShiftLeftEqual) ∷ (codes ">>=", mark.ShiftRightEqual) ∷ (codes "...", mark.Ellipsis)
    ∷ (codes "->", mark.Arrow) ∷ (codes "++", mark.Increment) ∷ (codes "--", mark.Decrement)
    ∷ (codes "<<", mark.ShiftLeft) ∷ (codes ">>", mark.ShiftRight) ∷ (codes "<=", mark.LessEqual)
    ∷ (codes ">=", mark.GreaterEqual) ∷ (codes "==", mark.EqualEqual) ∷ (codes "!=", mark.NotEqual)
    ∷ (codes "&&", mark.AndAnd) ∷ (codes "||", mark.OrOr) ∷ (codes "*=", mark.StarEqual)
    ∷ (codes "/=", mark.SlashEqual) ∷ (codes "%=", mark.PercentEqual) ∷ (codes "+=", mark.PlusEqual)
    ∷ (codes "-=", mark.MinusEqual) ∷ (codes "&=", mark.AmpersandEqual) ∷ (codes "^=", mark.CaretEqual)
    ∷ (codes "|=", mark.BarEqual) ∷ (codes "##", mark.HashHash) ∷ (codes "[", mark.OpenBracket)
    ∷ (codes "]", mark.CloseBracket) ∷ (codes "(", mark.OpenParenthesis) ∷ (codes ")", mark.CloseParenthesis)
    ∷ (codes "{", mark.OpenBrace) ∷ (codes "}", mark.CloseBrace) ∷ (codes ".", mark.Dot)
    ∷ (codes "&", mark.Ampersand) ∷ (codes "*", mark.Star) ∷ (codes "+", mark.Plus)
    ∷ (codes "-", mark.Minus) ∷ (codes "~", mark.Tilde) ∷ (codes "!", mark.Exclamation)
    ∷ (codes "/", mark.Slash) ∷ (codes "%", mark.Percent) ∷ (codes "<", mark.Less)
    ∷ (codes ">", mark.Greater) ∷ (codes "^", mark.Caret) ∷ (codes "|", mark.Bar)
    ∷ (codes "?", mark.Question) ∷ (codes ":", mark.Colon) ∷ (codes ";", mark.Semicolon)
    ∷ (codes "=", mark.Equal) ∷ (codes ",", mark.Comma) ∷ (codes "#", mark.Hash) ∷ []

-- the other spellings of punctuators, which the language has not
abbrev pub digraphs : List (List ℕ)
digraphs = codes "<:" ∷ codes ":>" ∷ codes "<%" ∷ codes "%>" ∷ codes "%:" ∷ []

-- one of the digraphs stands at a position of the text
unfoldable pub is_digraph_at : List ℕ → ℕ → Bool
is_digraph_at text at = list_any (text_has text at) digraphs

-- the first of the table that stands at an offset, and where it ends
abbrev pub find_punctuator : List (List ℕ × Punctuator) → List ℕ → ℕ → Option (Punctuator × ℕ)
find_punctuator [] text at = None
find_punctuator (m ∷ table) text at =
    if nat_lt 0 (length m.0) && text_has text at m.0 then Some (m.1, at + length m.0) else find_punctuator table text at

-- the longest punctuator at an offset, and where it ends
unfoldable pub longest_punctuator : List ℕ → ℕ → Option (Punctuator × ℕ)
longest_punctuator text at = find_punctuator punctuators text at

-- the punctuator at an offset that is no digraph; no other byte begins a token
unfoldable pub punctuator_at : List ℕ → ℕ → Result (Punctuator × ℕ) Fault
punctuator_at text at =
    if is_digraph_at text at then Err (fault UNKNOWN_BYTE at)
    else option_map_or (λ m. Ok m) (longest_punctuator text at) (Err (fault UNKNOWN_BYTE at))
