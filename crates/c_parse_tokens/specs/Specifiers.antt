-- Specifiers of types.
use Rattle.std.specs.Prelude.{ℕ, ◌+◌, Bool, true, false, not, ◌&&◌, ◌||◌, if◌then◌else◌, List, [], ◌∷◌, Option, Some, None, Result, Ok, Err}
use Rattle.std.specs.Option.{option_map_or}
use Rattle.c_token.specs.declared.token.Keyword.{Keyword}
use Rattle.c_token.specs.declared.token.Keyword.TheVariants as keyword
use Rattle.c_token.specs.declared.token.Punctuator.TheVariants as punctuator
use Rattle.c_token.specs.Lexemes.{Lexeme, Word}
use Rattle.c_token.specs.Lexemes as word
use Rattle.c_tree.specs.declared.types.Base.{Base}
use Rattle.c_tree.specs.declared.types.Base.TheVariants as base
use Rattle.c_tree.specs.declared.types.IntegerType.{IntegerType}
use Rattle.c_tree.specs.declared.types.IntegerType.TheVariants as type
use Rattle.c_parse_tokens.specs.declared.specifier.Place.{Place}
use Rattle.c_parse_tokens.specs.declared.specifier.Place.TheVariants as place
use Rattle.c_parse_tokens.specs.declared.specifier.Sign.{Sign}
use Rattle.c_parse_tokens.specs.declared.specifier.Sign.TheVariants as sign
use Rattle.c_parse_tokens.specs.declared.specifier.Width.{Width}
use Rattle.c_parse_tokens.specs.declared.specifier.Width.TheVariants as width
use Rattle.c_parse_tokens.specs.declared.specifier.SpecifierList.{SpecifierList}
use Rattle.c_parse_tokens.specs.Outcome.{Parser}
use Rattle.c_parse_tokens.specs.Front.{stuck}

-- no specifier
abbrev pub no_specifiers : SpecifierList
no_specifiers =
    record { is_static = false; is_void = false; is_int = false; sign = sign.Unstated; width = width.Unstated }

-- neither signed nor unsigned was said
abbrev pub is_signless : Sign → Bool
is_signless sign.Unstated = true
is_signless s = false

-- no word was said that tells the width of a type
abbrev pub is_widthless : Width → Bool
is_widthless width.Unstated = true
is_widthless w = false

-- the word char was said
abbrev pub is_char_word : Width → Bool
is_char_word width.Char = true
is_char_word w = false

-- a word of a type stood
unfoldable pub is_type : SpecifierList → Bool
is_type s = s.is_void || (s.is_int || (not (is_signless s.sign) || not (is_widthless s.width)))

-- a value, unless a test holds
abbrev pub unless : {A : Type 0} → Bool → A → Option A
unless true a = None
unless false a = Some a

-- `static` stands at file scope alone
abbrev pub bars_static : Place → Bool
bars_static place.File = false
bars_static p = true

-- `void` stands at file scope and in a cast
abbrev pub bars_void : Place → Bool
bars_void place.Object = true
bars_void p = false

-- `static` stands once
unfoldable pub with_static : Place → SpecifierList → Option SpecifierList
with_static p s = unless (s.is_static || bars_static p) (record s { is_static = true })

-- beside `void` no other word of a type stands
unfoldable pub with_void : Place → SpecifierList → Option SpecifierList
with_void p s = unless (is_type s || bars_void p) (record s { is_void = true })

-- `int` stands once, and not beside `char`
unfoldable pub with_int : SpecifierList → Option SpecifierList
with_int s = unless (s.is_void || (s.is_int || is_char_word s.width)) (record s { is_int = true })

-- one of `signed` and `unsigned` stands once
unfoldable pub with_sign : Sign → SpecifierList → Option SpecifierList
with_sign g s = unless (s.is_void || not (is_signless s.sign)) (record s { sign = g })

-- one of `char`, `short` and `long` stands once
unfoldable pub with_width : Width → SpecifierList → Option SpecifierList
with_width w s = unless (s.is_void || not (is_widthless s.width)) (record s { width = w })

-- `char` does not stand beside `int`
unfoldable pub with_char : SpecifierList → Option SpecifierList
with_char s = if s.is_int then None else with_width width.Char s

-- the specifiers with one word more, if it may stand behind them
unfoldable pub with_specifier : Place → Keyword → SpecifierList → Option SpecifierList
with_specifier p keyword.Static s = with_static p s
with_specifier p keyword.Void s = with_void p s
with_specifier p keyword.Int s = with_int s
with_specifier p keyword.Signed s = with_sign sign.Signed s
with_specifier p keyword.Unsigned s = with_sign sign.Unsigned s
with_specifier p keyword.Char s = with_char s
with_specifier p keyword.Short s = with_width width.Short s
with_specifier p keyword.Long s = with_width width.Long s
with_specifier p k s = None

-- the integer type that a width and a sign name
abbrev pub type_of : Width → Sign → IntegerType
type_of width.Char sign.Unstated = type.Char
type_of width.Char sign.Signed = type.SignedChar
type_of width.Char sign.Unsigned = type.UnsignedChar
type_of width.Short sign.Unsigned = type.UnsignedShort
type_of width.Short s = type.Short
type_of width.Long sign.Unsigned = type.UnsignedLong
type_of width.Long s = type.Long
type_of width.Unstated sign.Unsigned = type.UnsignedInt
type_of width.Unstated s = type.Int

-- the integer type that the words name
unfoldable pub integer_type : SpecifierList → IntegerType
integer_type s = type_of s.width s.sign

-- what the words name, `void` or an integer type
unfoldable pub base_of : SpecifierList → Base
base_of s = if s.is_void then base.Void else base.Integer (integer_type s)

-- the keyword that a token is
abbrev pub keyword_of_word : Word → Option Keyword
keyword_of_word (word.Keyword k) = Some k
keyword_of_word w = None

-- specifiers end before a token that is no keyword; a word of a type must be among them
abbrev pub ended : SpecifierList → Parser SpecifierList
ended found ts = if is_type found then Ok (found, ts) else Err (stuck ts)

-- the specifiers at the front, behind those that were found
abbrev pub specifiers_from : Place → SpecifierList → Parser SpecifierList
specifiers_from p found [] = ended found []
specifiers_from p found (t ∷ ts) =
    option_map_or
    (λ k. option_map_or (λ more. specifiers_from p more ts) (with_specifier p k found) (Err (stuck (t ∷ ts))))
    (keyword_of_word t.kind) (ended found (t ∷ ts))

-- the specifiers at the front
unfoldable pub specifiers : Place → Parser SpecifierList
specifiers p ts = specifiers_from p no_specifiers ts

-- a word of an integer type
abbrev pub is_type_word : Word → Bool
is_type_word (word.Keyword keyword.Char) = true
is_type_word (word.Keyword keyword.Short) = true
is_type_word (word.Keyword keyword.Int) = true
is_type_word (word.Keyword keyword.Long) = true
is_type_word (word.Keyword keyword.Signed) = true
is_type_word (word.Keyword keyword.Unsigned) = true
is_type_word w = false

-- the first token is a word of an integer type
unfoldable pub begins_type : List Lexeme → Bool
begins_type [] = false
begins_type (t ∷ ts) = is_type_word t.kind

-- a lexeme is the keyword void
abbrev pub is_void_word : Word → Bool
is_void_word (word.Keyword keyword.Void) = true
is_void_word w = false

-- the first token names a type, `void` or an integer type
unfoldable pub names_type : List Lexeme → Bool
names_type [] = false
names_type (t ∷ ts) = is_void_word t.kind || is_type_word t.kind

-- a lexeme is an opening parenthesis
abbrev pub is_parenthesis : Word → Bool
is_parenthesis (word.Punctuator punctuator.OpenParenthesis) = true
is_parenthesis w = false

-- the tokens behind a parenthesis, if one stands at the front and a type behind it
unfoldable pub type_behind : List Lexeme → Option (List Lexeme)
type_behind [] = None
type_behind (t ∷ ts) = if is_parenthesis t.kind && names_type ts then Some ts else None

-- a lexeme is a star
abbrev pub is_star : Word → Bool
is_star (word.Punctuator punctuator.Star) = true
is_star w = false

-- how many `*` stand at the front, more than those counted, and the tokens behind them
abbrev pub stars_from : ℕ → List Lexeme → ℕ × List Lexeme
stars_from count [] = (count, [])
stars_from count (t ∷ ts) = if is_star t.kind then stars_from (count + 1) ts else (count, t ∷ ts)

-- how many `*` stand at the front, and the tokens behind them
unfoldable pub stars : List Lexeme → ℕ × List Lexeme
stars ts = stars_from 0 ts
