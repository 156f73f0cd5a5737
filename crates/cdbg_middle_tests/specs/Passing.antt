-- Effects of instructions for tests, and the shape of rows of bits.
use Rattle.std.specs.Prelude.{◌≡◌, ℕ, ◌<◌, ◌==◌, if◌then◌else◌, Bool, List, length}
use Rattle.bit_rows.specs.Grid.{row_at}
use Rattle.graph_core.specs.Graphs.{Instruction, End}
use Rattle.graph_core.specs.Paths.{notes, writes}
use Rattle.graph_solve_live.specs.declared.inside.Effect.{Effect}
use Rattle.graph_solve_live.specs.declared.inside.Effect.TheVariants.{Sets, Clears, Leaves}

-- whether a name was written since its last note: what writes it sets the fact of its number, and a note of it clears
-- the fact
abbrev pub written_effect : Instruction → (fact : ℕ) → Effect
written_effect i fact = if writes fact i then Sets else if notes fact i then Clears else Leaves

-- the end of a block clears the fact 1
abbrev pub end_effect : End → (fact : ℕ) → Effect
end_effect end fact = if fact == 1 then Clears else Leaves

-- So many rows, each of this width.
pub record HasShape (count width : ℕ) (rows : List (List Bool)) : Type 0 where
  pub rows_are : length rows ≡ count
  pub widths_are : (row : ℕ) → row < count → length (row_at rows row) ≡ width
