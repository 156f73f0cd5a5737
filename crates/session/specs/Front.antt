-- Which sources are compiled.
use Rattle.std.specs.Prelude.{◌≡◌, ℕ, List, Err}
use Rattle.debug_records.specs.declared.code.Code.{Code}
use Rattle.c_source.specs.Sources.{program_of_source}

-- A source is refused for the first rule of C that it breaks, of tokens, else of the grammar, else of names and types;
-- each that breaks none is compiled.
abbrev pub IsRefusedSource : List ℕ → Code → ℕ → Type 0
IsRefusedSource text code line = program_of_source text ≡ Err (code, line)
