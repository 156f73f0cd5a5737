-- What program a text is of.
use Rattle.std.specs.Prelude.{◌≡◌, ℕ, List, Result, Ok}
use Rattle.debug_records.specs.declared.code.Code.{Code}
use Rattle.c_token.specs.Reading.{◌>>=◌}
use Rattle.c_token.specs.Texts.{tokens_of}
use Rattle.c_tree.specs.Programs.{ProgramTree}
use Rattle.c_parse.specs.Reading.{tree_of}
use Rattle.c_type.specs.Programs.{checked}

-- the program of a source, by its tokens, the grammar and the rules of names and types; or the code and the line of its
-- first fault
unfoldable pub program_of_source : List ℕ → Result ProgramTree (Code × ℕ)
program_of_source text = tokens_of text >>= tree_of >>= checked

-- the text is of a program
pub record HasProgram (text : List ℕ) : Type 0 where
  pub program : ProgramTree
  pub program_is : program_of_source text ≡ Ok program
