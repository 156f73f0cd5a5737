-- Tokens without where they lie in memory.
use Rattle.std.specs.Prelude.{ℕ, List, map, string_bytes}
use Rattle.debug_records.specs.declared.source.Spot.{Spot}
use Rattle.c_token.specs.declared.token.Keyword as keyword
use Rattle.c_token.specs.declared.token.Constant as constant
use Rattle.c_token.specs.declared.token.Punctuator as punctuator
use Rattle.c_token.specs.declared.token.Header as header
use Rattle.c_token.specs.declared.token.Kind.{Kind}
use Rattle.c_token.specs.declared.token.Kind.TheVariants as kind
use Rattle.c_token.specs.declared.token.Token.{Token}

-- what a token is
pub data Word : Type 0 where
  Name : (name : List ℕ) → Word
  Keyword : (keyword : keyword.Keyword) → Word
  Constant : (constant : constant.Constant) → Word
  Literal : (bytes : List ℕ) → Word
  Punctuator : (punctuator : punctuator.Punctuator) → Word
  Include : (header : header.Header) → Word

-- a token, and where its first byte stands
pub record Lexeme : Type 0 where
  pub kind : Word
  pub spot : Spot

abbrev pub word_view : Kind → Word
word_view (kind.Name name) = Name (string_bytes name)
word_view (kind.Keyword keyword) = Keyword keyword
word_view (kind.Constant constant) = Constant constant
word_view (kind.Literal bytes) = Literal bytes.items
word_view (kind.Punctuator punctuator) = Punctuator punctuator
word_view (kind.Include header) = Include header

abbrev pub lexeme : Token → Lexeme
lexeme token = record { kind = word_view token.kind; spot = token.spot }

abbrev pub lexemes : List Token → List Lexeme
lexemes tokens = map lexeme tokens
