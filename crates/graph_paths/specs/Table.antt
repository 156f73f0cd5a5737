-- Rows of bits of one width.
use Rattle.std.specs.Prelude.{◌≡◌, ℕ, ◌<◌, Bool, List, length}
use Rattle.bit_rows.specs.Grid.{row_at}

-- each row has so many bits
abbrev pub AreWide : (width : ℕ) → List (List Bool) → Type 0
AreWide width rows = (row : ℕ) → row < length rows → length (row_at rows row) ≡ width
