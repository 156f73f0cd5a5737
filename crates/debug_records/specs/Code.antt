-- How the code of a refusal is shown.
use Rattle.std.specs.Prelude.{ℕ, nat_lt, if◌then◌else◌, List, ◌∷◌}
use Rattle.std.specs.Fmt.{decimal}
use Rattle.debug_records.specs.declared.code.Code.{Code}
use Rattle.debug_records.specs.declared.code.Letter.{Letter}
use Rattle.debug_records.specs.declared.code.Letter.TheVariants.{E, L, S, I, A}

-- the ASCII code of the capital letter
abbrev pub letter_byte : Letter → ℕ
letter_byte E = 69
letter_byte L = 76
letter_byte S = 83
letter_byte I = 73
letter_byte A = 65

-- a number in decimal, with a zero in front of a single digit
abbrev pub two_digits : ℕ → List ℕ
two_digits n = if nat_lt n 10 then 48 ∷ decimal n else decimal n

-- the letter and the number, as E29 or S01
abbrev pub code_text : Code → List ℕ
code_text code = letter_byte code.letter ∷ two_digits code.number
