-- Numbers in hexadecimal, with lower-case letters.
use Rattle.std.specs.Prelude.{ℕ, suc, zero, ◌+◌, ◌/◌, ◌%◌, nat_lt, if◌then◌else◌, List, [], ◌∷◌, ◌++◌}

-- one digit, of 0 to 9 and a to f
abbrev pub hexadecimal_digit : ℕ → ℕ
hexadecimal_digit d = if nat_lt d 10 then 48 + d else 87 + d

-- the last so many digits of a number
unfoldable pub hexadecimal : ℕ → ℕ → List ℕ
hexadecimal zero n = []
hexadecimal (suc width) n = hexadecimal width (n / 16) ++ hexadecimal_digit (n % 16) ∷ []
