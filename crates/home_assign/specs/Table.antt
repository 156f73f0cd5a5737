-- Rows of bits of one width, of which some are written.
use Rattle.std.specs.Prelude.{◌≡◌, ◌≢◌, ℕ, ◌<◌, ◌≤◌, Bool, List, length}
use Rattle.bit_rows.specs.Grid.{row_at}

-- each row has so many bits
abbrev pub AreWide : (width : ℕ) → List (List Bool) → Type 0
AreWide width rows = (row : ℕ) → row < length rows → length (row_at rows row) ≡ width

-- rows are as they were, but for one
abbrev pub AreSameBut : (row : ℕ) (old new : List (List Bool)) → Type 0
AreSameBut row old new = (r : ℕ) → r ≢ row → row_at new r ≡ row_at old r

-- rows from this one on are as they were
abbrev pub AreSameBehind : (row : ℕ) (old new : List (List Bool)) → Type 0
AreSameBehind row old new = (r : ℕ) → row ≤ r → row_at new r ≡ row_at old r
