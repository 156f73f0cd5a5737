-- Rows of bits as sets of numbers.
use Rattle.std.specs.Prelude.{◌≡◌, ℕ, suc, ◌+◌, Bool, true, false, List, [], ◌∷◌, length, map}
use Rattle.std.specs.FinSet.{empty, insert}
use Rattle.std.specs.List.{range_with_len}
use Rattle.bit_rows.specs.Grid.{row_at}
use Rattle.graph_solve_problem.specs.Numbers.{Numbers}

-- the numbers whose bits are set in a row that begins with this number
abbrev pub numbers_from : ℕ → List Bool → Numbers
numbers_from n [] = empty
numbers_from n (true ∷ more) = insert (numbers_from (suc n) more) n
numbers_from n (false ∷ more) = numbers_from (suc n) more

-- a row as the set of the numbers whose bits are set
abbrev pub set_of : List Bool → Numbers
set_of row = numbers_from 0 row

-- the set of a row of this number
abbrev pub set_at : List (List Bool) → ℕ → Numbers
set_at rows row = set_of (row_at rows row)

-- so many rows as sets, from a row on
abbrev pub sets_at : List (List Bool) → (from count : ℕ) → List Numbers
sets_at rows from count = map (λ row. set_at rows (from + row)) (range_with_len 0 count)

-- rows that are made of a function of row and bit
abbrev pub table : (rows width : ℕ) → (ℕ → ℕ → Bool) → List (List Bool)
table rows width bits = map (λ row. map (bits row) (range_with_len 0 width)) (range_with_len 0 rows)

-- Rows are as they were but for one, which has as many bits as it had.
pub record AreSameElsewhere (row : ℕ) (old new : List (List Bool)) : Type 0 where
  pub count : length new ≡ length old
  pub width : length (row_at new row) ≡ length (row_at old row)
  pub others : (other : ℕ) → (other ≡ row → ⊥) → row_at new other ≡ row_at old other
