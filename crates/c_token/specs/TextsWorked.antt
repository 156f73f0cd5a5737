-- What the definitions say of small texts: their tokens, or how they are refused.
use Rattle.std.specs.Prelude.{◌≡◌, ℕ, true, false, [], ◌∷◌, Ok, Err, codes}
use Rattle.debug_records.specs.declared.code.TheConstants.Code.{UNKNOWN_BYTE, UNENDED_COMMENT, UNKNOWN_ESCAPE, UNKNOWN_DIRECTIVE}
use Rattle.c_token.specs.declared.token.Header.TheVariants.{Stdio}
use Rattle.c_token.specs.declared.token.Keyword.TheVariants.{Int}
use Rattle.c_token.specs.declared.token.Punctuator.TheVariants as mark
use Rattle.c_token.specs.Lexemes.{Word, Name, Keyword, Constant, Punctuator, Include, Lexeme}
use Rattle.c_token.specs.Texts.{tokens_of}

abbrev token : Word → ℕ → ℕ → Lexeme
token word at line = record { kind = word; spot = record { at = at; line = line } }

-- Worked texts.
pub record AreWorked : Type 0 where
  -- `#include <stdio.h>` and, on the next line, `int a/**/+++b=010u;`
  pub declaration : tokens_of (codes "#include <stdio.h>\nint a/**/+++b=010u;") ≡ Ok (
      token (Include Stdio) 0 1
      ∷ token (Keyword Int) 19 2
      ∷ token (Name (codes "a")) 23 2
      ∷ token (Punctuator mark.Increment) 28 2
      ∷ token (Punctuator mark.Plus) 30 2
      ∷ token (Name (codes "b")) 31 2
      ∷ token (Punctuator mark.Equal) 32 2
      ∷ token (Constant (record { value = 8; is_unsigned = true; is_long = false })) 33 2
      ∷ token (Punctuator mark.Semicolon) 37 2
      ∷ [])
  -- an include line after `){` is refused, and one after `={` is taken
  pub inside_a_function : tokens_of (codes "){\n#include <stdio.h>") ≡ Err (UNKNOWN_DIRECTIVE, 2)
  pub inside_an_initializer : tokens_of (codes "={\n#include <stdio.h>") ≡ Ok (
      token (Punctuator mark.Equal) 0 1 ∷ token (Punctuator mark.OpenBrace) 1 1 ∷ token (Include Stdio) 3 2 ∷ [])
  -- the fault within comes before that of the end: a trigraph in an open comment, an unknown escape in an open literal
  pub within_a_comment : tokens_of (codes "/*\n??=") ≡ Err (UNKNOWN_BYTE, 2)
  pub within_a_literal : tokens_of (codes "'\\q") ≡ Err (UNKNOWN_ESCAPE, 1)
  -- an open comment is told with the line where it began
  pub open_comment : tokens_of (codes "\n/*\n\n") ≡ Err (UNENDED_COMMENT, 2)
