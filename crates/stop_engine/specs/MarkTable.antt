-- A table of marks, one for each place number.
use Rattle.std.specs.Prelude.{ℕ, ◌+◌, Bool, true, false, List, [], ◌∷◌, length}

-- The places that are marked, of the numbers below a bound.
pub record MarkTable : Type 0 where
  pub bound : ℕ
  pub places : List ℕ

-- the numbers at which a table has a mark; the first of the table has this number
abbrev pub marked_from : (number : ℕ) → List Bool → List ℕ
marked_from number [] = []
marked_from number (true ∷ marks) = number ∷ marked_from (number + 1) marks
marked_from number (false ∷ marks) = marked_from (number + 1) marks

-- what a table has marked
abbrev pub mark_table : List Bool → MarkTable
mark_table marks = record { bound = length marks; places = marked_from 0 marks }
