-- Sets of numbers as the bits of a word.
use Rattle.std.specs.Prelude.{ℕ, ◌%◌, ◌==◌, Bool}
use Rattle.std.specs.Int.{bit_at}

-- whether a number is in a set; numbers are taken but for multiples of 64
abbrev pub has : (word number : ℕ) → Bool
has word number = bit_at word (number % 64) == 1
