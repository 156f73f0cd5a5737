-- Rows of bits.
use Rattle.std.specs.Prelude.{ℕ, ◌+◌, Bool, true, false, List, [], ◌∷◌}
use Rattle.bit_rows.specs.Grid.{is_set}
use Rattle.graph_paths.specs.declared.marks.Marks.{Marks}

-- whether a bit is set; none is outside
abbrev pub bits_of : Marks → (row bit : ℕ) → Bool
bits_of marks row bit = is_set marks.rows row bit

-- how many bits of a row are set
abbrev pub set_in : List Bool → ℕ
set_in [] = 0
set_in (true ∷ more) = 1 + set_in more
set_in (false ∷ more) = set_in more

-- how many bits of all rows
abbrev pub set_in_all : List (List Bool) → ℕ
set_in_all [] = 0
set_in_all (row ∷ more) = set_in row + set_in_all more

-- how many bits are set
abbrev pub told : Marks → ℕ
told marks = set_in_all marks.rows
