-- What is so of the tokens of each text: their names are identifiers, their constants are numbers of their types, their
-- literals are of bytes (ISO/IEC 9899:2011, 6.4.2.1, 6.4.4.1 and 6.4.5).
use Rattle.std.specs.Prelude.{◌≡◌, pos, true, List, [], ◌∷◌, map}
use Rattle.debug_records.specs.declared.source.Spot.{Spot}
use Rattle.c_token.specs.Lexemes.{Word, Lexeme, Name, Keyword, Constant, Literal, Punctuator, Include}
use Rattle.c_type_rules.specs.Integers.{fits}
use Rattle.c_parse_expressions.specs.Expressions.{constant_type}
use Rattle.c_type_laws.specs.Names.{is_name}
use Rattle.c_type_laws.specs.Statics.{are_bytes}

-- a name is an identifier of no more than 63 bytes, a constant is a number of its type, a literal has bytes
abbrev pub IsSound : Word → Type 0
IsSound (Name name) = is_name name ≡ true
IsSound (Keyword keyword) = Unit {0}
IsSound (Constant c) = fits (constant_type c.is_long c.is_unsigned) (pos c.value) ≡ true
IsSound (Literal bytes) = are_bytes bytes ≡ true
IsSound (Punctuator punctuator) = Unit {0}
IsSound (Include header) = Unit {0}

-- so is each of the tokens
abbrev pub AreSound : List Lexeme → Type 0
AreSound [] = Unit {0}
AreSound (t ∷ ts) = IsSound t.kind × AreSound ts

-- where tokens stand
abbrev pub spots_of_tokens : List Lexeme → List Spot
spots_of_tokens ts = map (λ (t : Lexeme). t.spot) ts
