-- What a token is, told from what is asked of it.
use Rattle.std.proofs.Common.{◌≡◌, ℕ, true, List, Some, None, refl, ap}
use Rattle.c_token.specs.declared.token.Keyword.{Keyword}
use Rattle.c_token.specs.declared.token.Keyword.TheVariants as keyword
use Rattle.c_token.specs.declared.token.Punctuator.{Punctuator}
use Rattle.c_token.specs.declared.token.Punctuator.TheVariants as punctuator
use Rattle.c_token.specs.Lexemes.{Lexeme, Word}
use Rattle.c_token.specs.Lexemes as word
use Rattle.c_parse_tokens.specs.declared.mark.Mark.{Mark}
use Rattle.c_parse_tokens.specs.declared.mark.Mark.TheVariants as mark
use Rattle.c_parse_tokens.specs.Front.{is, is_punctuator, is_keyword}
use Rattle.c_parse_tokens.specs.Operators.{punctuator_of}
use Rattle.c_parse_tokens.specs.Specifiers.{keyword_of_word, is_parenthesis, is_star}
use Rattle.c_parse_expressions.specs.Expressions.{literal_of}
pub use Rattle.base_laws.proofs.Numbers.{no}
pub use Rattle.base_laws.proofs.Options.{same_some as some_same}

-- the token that a mark is
abbrev pub word_of : Mark → Word
word_of mark.OpenParenthesis = word.Punctuator punctuator.OpenParenthesis
word_of mark.CloseParenthesis = word.Punctuator punctuator.CloseParenthesis
word_of mark.OpenBracket = word.Punctuator punctuator.OpenBracket
word_of mark.CloseBracket = word.Punctuator punctuator.CloseBracket
word_of mark.OpenBrace = word.Punctuator punctuator.OpenBrace
word_of mark.CloseBrace = word.Punctuator punctuator.CloseBrace
word_of mark.Comma = word.Punctuator punctuator.Comma
word_of mark.Semicolon = word.Punctuator punctuator.Semicolon
word_of mark.Colon = word.Punctuator punctuator.Colon
word_of mark.Question = word.Punctuator punctuator.Question
word_of mark.Equal = word.Punctuator punctuator.Equal
word_of mark.If = word.Keyword keyword.If
word_of mark.Else = word.Keyword keyword.Else
word_of mark.While = word.Keyword keyword.While
word_of mark.Void = word.Keyword keyword.Void

-- a mark is its token
pub word_is : (m : Mark) → is m (word_of m) ≡ true
word_is mark.OpenParenthesis = refl
word_is mark.CloseParenthesis = refl
word_is mark.OpenBracket = refl
word_is mark.CloseBracket = refl
word_is mark.OpenBrace = refl
word_is mark.CloseBrace = refl
word_is mark.Comma = refl
word_is mark.Semicolon = refl
word_is mark.Colon = refl
word_is mark.Question = refl
word_is mark.Equal = refl
word_is mark.If = refl
word_is mark.Else = refl
word_is mark.While = refl
word_is mark.Void = refl

punctuator_is : (m : Mark) (p : Punctuator) → is_punctuator m p ≡ true → word.Punctuator p ≡ word_of m
punctuator_is mark.OpenParenthesis punctuator.OpenParenthesis h = refl
punctuator_is mark.CloseParenthesis punctuator.CloseParenthesis h = refl
punctuator_is mark.OpenBracket punctuator.OpenBracket h = refl
punctuator_is mark.CloseBracket punctuator.CloseBracket h = refl
punctuator_is mark.OpenBrace punctuator.OpenBrace h = refl
punctuator_is mark.CloseBrace punctuator.CloseBrace h = refl
punctuator_is mark.Comma punctuator.Comma h = refl
punctuator_is mark.Semicolon punctuator.Semicolon h = refl
punctuator_is mark.Colon punctuator.Colon h = refl
punctuator_is mark.Question punctuator.Question h = refl
punctuator_is mark.Equal punctuator.Equal h = refl
punctuator_is m p h = no h

keyword_is : (m : Mark) (k : Keyword) → is_keyword m k ≡ true → word.Keyword k ≡ word_of m
keyword_is mark.If keyword.If h = refl
keyword_is mark.Else keyword.Else h = refl
keyword_is mark.While keyword.While h = refl
keyword_is mark.Void keyword.Void h = refl
keyword_is m k h = no h

-- a token that is a mark is its token
pub is_word : (m : Mark) (w : Word) → is m w ≡ true → w ≡ word_of m
is_word m (word.Punctuator p) h = punctuator_is m p h
is_word m (word.Keyword k) h = keyword_is m k h
is_word m (word.Name n) h = no h
is_word m (word.Constant c) h = no h
is_word m (word.Literal bytes) h = no h
is_word m (word.Include i) h = no h

pub never : {A B : Type 0} {x : A} → None ≡ Some x → B
never e = absurd cc

pub punctuator_there : (w : Word) (p : Punctuator) → punctuator_of w ≡ Some p → w ≡ word.Punctuator p
punctuator_there (word.Punctuator q) p e = ap (λ (x : Punctuator). word.Punctuator x) (some_same e)
punctuator_there (word.Keyword k) p e = never e
punctuator_there (word.Name n) p e = never e
punctuator_there (word.Constant c) p e = never e
punctuator_there (word.Literal bytes) p e = never e
punctuator_there (word.Include i) p e = never e

pub keyword_there : (w : Word) (k : Keyword) → keyword_of_word w ≡ Some k → w ≡ word.Keyword k
keyword_there (word.Keyword q) k e = ap (λ (x : Keyword). word.Keyword x) (some_same e)
keyword_there (word.Punctuator p) k e = never e
keyword_there (word.Name n) k e = never e
keyword_there (word.Constant c) k e = never e
keyword_there (word.Literal bytes) k e = never e
keyword_there (word.Include i) k e = never e

pub literal_there : (w : Word) (bytes : List ℕ) → literal_of w ≡ Some bytes → w ≡ word.Literal bytes
literal_there (word.Literal part) bytes e = ap (λ (x : List ℕ). word.Literal x) (some_same e)
literal_there (word.Punctuator p) bytes e = never e
literal_there (word.Keyword k) bytes e = never e
literal_there (word.Name n) bytes e = never e
literal_there (word.Constant c) bytes e = never e
literal_there (word.Include i) bytes e = never e

pub star_there : (w : Word) → is_star w ≡ true → w ≡ word.Punctuator punctuator.Star
star_there (word.Punctuator punctuator.Star) h = refl
star_there w h = no h

pub parenthesis_there : (w : Word) → is_parenthesis w ≡ true → w ≡ word.Punctuator punctuator.OpenParenthesis
parenthesis_there (word.Punctuator punctuator.OpenParenthesis) h = refl
parenthesis_there w h = no h
