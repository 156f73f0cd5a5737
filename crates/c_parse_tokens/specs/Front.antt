-- What stands at the front of the tokens.
use Rattle.std.specs.Prelude.{ℕ, zero, suc, ◌-◌, Bool, true, false, if◌then◌else◌, List, [], ◌∷◌, ◌++◌, length, drop, Option, Some, None, Result, Ok, Err}
use Rattle.std.specs.Option.{option_map_or}
use Rattle.debug_records.specs.declared.code.Code.{Code}
use Rattle.debug_records.specs.declared.code.TheConstants.Code.{UNEXPECTED_TOKEN, UNEXPECTED_KEYWORD, NESTING}
use Rattle.debug_records.specs.declared.source.Spot.{Spot}
use Rattle.c_token.specs.declared.token.Keyword.{Keyword}
use Rattle.c_token.specs.declared.token.Keyword.TheVariants as keyword
use Rattle.c_token.specs.declared.token.Punctuator.{Punctuator}
use Rattle.c_token.specs.declared.token.Punctuator.TheVariants as punctuator
use Rattle.c_token.specs.Lexemes.{Lexeme, Word}
use Rattle.c_token.specs.Lexemes as word
use Rattle.c_tree.specs.declared.extent.Extent.{Extent}
use Rattle.c_parse_tokens.specs.declared.fault.Stuck.{Stuck}
use Rattle.c_parse_tokens.specs.declared.fault.Stuck.TheVariants.{At, AtEnd}
use Rattle.c_parse_tokens.specs.declared.mark.Mark.{Mark}
use Rattle.c_parse_tokens.specs.declared.mark.Mark.TheVariants as mark
use Rattle.c_parse_tokens.specs.Outcome.{Parser, ◌>>=◌}

-- the code for a token that no construct takes
abbrev pub unexpected : Word → Code
unexpected (word.Keyword k) = UNEXPECTED_KEYWORD
unexpected w = UNEXPECTED_TOKEN

-- reading stops before the first token, which no construct takes
abbrev pub stuck : List Lexeme → Stuck
stuck [] = AtEnd
stuck (t ∷ ts) = At (unexpected t.kind) t.spot.line

-- the same where the nesting is used up: a token that a construct takes stands too deep
abbrev pub refusal : (is_taken : Bool) → List Lexeme → Stuck
refusal is_taken [] = AtEnd
refusal is_taken (t ∷ ts) = At (if is_taken then NESTING else unexpected t.kind) t.spot.line

-- what may nest inside a construct, where the nesting allows one more; what may nest is a list, the next level first
abbrev pub inside : {A : Type 0} → List A → (is_taken : Bool) → List Lexeme → Result (List A) Stuck
inside [] is_taken ts = Err (refusal is_taken ts)
inside (level ∷ levels) is_taken ts = Ok levels

-- the same with the number of levels that are left
abbrev pub one_less : ℕ → (is_taken : Bool) → List Lexeme → Result ℕ Stuck
one_less zero is_taken ts = Err (refusal is_taken ts)
one_less (suc depth) is_taken ts = Ok depth

-- the punctuator is the mark
abbrev pub is_punctuator : Mark → Punctuator → Bool
is_punctuator mark.OpenParenthesis punctuator.OpenParenthesis = true
is_punctuator mark.CloseParenthesis punctuator.CloseParenthesis = true
is_punctuator mark.OpenBracket punctuator.OpenBracket = true
is_punctuator mark.CloseBracket punctuator.CloseBracket = true
is_punctuator mark.OpenBrace punctuator.OpenBrace = true
is_punctuator mark.CloseBrace punctuator.CloseBrace = true
is_punctuator mark.Comma punctuator.Comma = true
is_punctuator mark.Semicolon punctuator.Semicolon = true
is_punctuator mark.Colon punctuator.Colon = true
is_punctuator mark.Question punctuator.Question = true
is_punctuator mark.Equal punctuator.Equal = true
is_punctuator m p = false

-- the keyword is the mark
abbrev pub is_keyword : Mark → Keyword → Bool
is_keyword mark.If keyword.If = true
is_keyword mark.Else keyword.Else = true
is_keyword mark.While keyword.While = true
is_keyword mark.Void keyword.Void = true
is_keyword m k = false

-- the token is the mark
abbrev pub is : Mark → Word → Bool
is m (word.Punctuator p) = is_punctuator m p
is m (word.Keyword k) = is_keyword m k
is m w = false

-- a mark stands at the front
unfoldable pub is_at : Mark → List Lexeme → Bool
is_at m [] = false
is_at m (t ∷ ts) = is m t.kind

-- the tokens behind a mark, if it stands at the front
unfoldable pub tokens_behind : Mark → List Lexeme → Option (List Lexeme)
tokens_behind m [] = None
tokens_behind m (t ∷ ts) = if is m t.kind then Some ts else None

-- the tokens behind a mark, which has to stand at the front
unfoldable pub want : Mark → List Lexeme → Result (List Lexeme) Stuck
want m ts = option_map_or (λ rest. Ok rest) (tokens_behind m ts) (Err (stuck ts))

-- where the first token stands; at the end of the tokens the beginning of the text
abbrev pub spot_at : List Lexeme → Spot
spot_at [] = record { at = 0; line = 0 }
spot_at (t ∷ ts) = t.spot

-- the offset of the last token before the rest
unfoldable pub last_before : List Lexeme → (rest : List Lexeme) → ℕ
last_before ts rest = (spot_at (drop (length ts - length rest - 1) ts)).at

-- where the tokens before the rest stand
unfoldable pub extent_before : List Lexeme → (rest : List Lexeme) → Extent
extent_before ts rest = record { first = spot_at ts; last = last_before ts rest }

-- more items, each behind a comma, after those that were read; as many as there are tokens are enough
abbrev pub separated : {A : Type 0} → ℕ → Parser A → List A → Parser (List A)
separated zero item done ts = Ok (done, ts)
separated (suc n) item done ts =
    option_map_or (λ after. item after >>= λ x. separated n item (done ++ x.0 ∷ []) x.1) (tokens_behind mark.Comma ts)
    (Ok (done, ts))
