-- Rows of bits in words of 64 bits, each row in so many words.
use Rattle.std.specs.Prelude.{◌≡◌, ℕ, ◌+◌, ◌*◌, ◌/◌, ◌%◌, ◌^◌, ◌<◌, ◌≤◌, ◌==◌, Bool, true, false, List, length, map, slice_index, bit_and, bit_or}
use Rattle.std.specs.Int.{bit_at}
use Rattle.std.specs.List.{range_with_len}

-- what is left of two words where rows meet
abbrev pub met_word : (unite : Bool) → ℕ → ℕ → ℕ
met_word true a b = bit_or a b
met_word false a b = bit_and a b

-- what is kept of a word, with what is written
abbrev pub passed_word : (word kept written : ℕ) → ℕ
passed_word word kept written = bit_or (bit_and word kept) written

-- whether a bit of a row is 1
abbrev pub bit_in : (words : List ℕ) (stride row bit : ℕ) → Bool
bit_in words stride row bit = bit_at (slice_index words (row * stride + bit / 64)) (bit % 64) == 1

-- the bits of a row
abbrev pub row_in : (words : List ℕ) (stride width row : ℕ) → List Bool
row_in words stride width row = map (bit_in words stride row) (range_with_len 0 width)

-- the rows, so many
abbrev pub rows_in : (words : List ℕ) (stride width rows : ℕ) → List (List Bool)
rows_in words stride width rows = map (row_in words stride width) (range_with_len 0 rows)

-- The words are just as many as the rows take, and what a row does not use of its last word is clear.
pub record AreRows (words : List ℕ) (stride width rows : ℕ) : Type 0 where
  pub few : rows < 2 ^ 32
  pub narrow : width < 2 ^ 32
  pub each : length words ≡ rows * stride
  pub room : width ≤ 64 * stride
  pub tight : 64 * stride < width + 64
  pub unused : (row bit : ℕ) → row < rows → width ≤ bit → bit < 64 * stride → bit_in words stride row bit ≡ false
