-- What the definitions together say of a text.
use Rattle.std.specs.Prelude.{◌≡◌, ◌↔◌, ℕ, ◌+◌, ◌≤◌, true, false, List, length, Some, Ok, Err, slice_index}
use Rattle.std.specs.List.{AllByRecursion}
use Rattle.debug_records.specs.declared.code.Code.{Code}
use Rattle.c_token.specs.declared.token.Constant as constant
use Rattle.c_token.specs.declared.token.Punctuator.{Punctuator}
use Rattle.c_token.specs.Bytes.{is_word_byte, text_has}
use Rattle.c_token.specs.Constants.{is_number_byte, constant_at}
use Rattle.c_token.specs.Lexemes.{Word, Lexeme}
use Rattle.c_token.specs.Punctuators.{punctuators, longest_punctuator}
use Rattle.c_token.specs.Spells.{Spells, Breaks}
use Rattle.c_token.specs.Texts.{tokens_of}
use Rattle.c_token.specs.Words.{word_at}

-- the tokens that a text spells are those that are read from it
abbrev pub SpelledIsRead : Type 0
SpelledIsRead = (text : List ℕ) (tokens : List Lexeme) → (Spells text tokens) ↔ (tokens_of text ≡ Ok tokens)

-- why a text breaks a rule is told by its code and line
abbrev pub BreachIsTold : Type 0
BreachIsTold = (text : List ℕ) (code : Code) (line : ℕ) → (Breaks text code line) ↔ (tokens_of text ≡ Err (code, line))

-- no byte of an identifier stands behind a word
abbrev pub WordsAreLongest : Type 0
WordsAreLongest =
    (text : List ℕ) (at : ℕ) (w : Word) (end : ℕ) → word_at text at ≡ Ok (w, end)
    → is_word_byte (slice_index text end) ≡ false

-- no byte of a constant stands behind a constant
abbrev pub ConstantsAreLongest : Type 0
ConstantsAreLongest =
    (text : List ℕ) (at : ℕ) (c : constant.Constant) (end : ℕ) → constant_at text at ≡ Ok (c, end)
    → is_number_byte (slice_index text end) ≡ false

-- no punctuator that stands where one is taken is longer
abbrev pub PunctuatorsAreLongest : Type 0
PunctuatorsAreLongest = (text : List ℕ) (at : ℕ) (p : Punctuator) (end : ℕ) → longest_punctuator text at ≡ Some (p, end)
    → AllByRecursion (λ m. text_has text at m.0 ≡ true → at + length m.0 ≤ end) punctuators
