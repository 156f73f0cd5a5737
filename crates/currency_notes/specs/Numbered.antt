-- That homes are numbered as the notes of a graph read them.
use Rattle.std.specs.Prelude.{◌≡◌, ℕ, ◌<◌, Some, length, slice_get}
use Rattle.graph_core.specs.Graphs.{Recipe, Is, Note, Block, Graph}
use Rattle.graph_core.specs.Paths.{Among}
use Rattle.graph_core.specs.Uses.{names_in}
use Rattle.currency_notes.specs.declared.homes.Homes as declared-homes
use Rattle.currency_notes.specs.Homes.{home_by, number_at, number_in, AreReadBy, IsRead}

-- A note of a scalar with this recipe stands in a graph.
pub record IsNoteIn (g : Graph) (x : ℕ) (r : Recipe) : Type 0 where
  pub n : ℕ
  pub block : Block
  pub scalar : x < length g.scalars
  pub is : slice_get g.blocks n ≡ Some block
  pub among : Among (Note x (Is r)) block.instructions

-- Numbers tell the homes of names apart.
abbrev pub AreToldApart : declared-homes.Homes → Type 0
AreToldApart m = (y z : ℕ) → IsRead m y z → home_by m y ≡ home_by m z

module _ (m : declared-homes.Homes) (g : Graph) where
  -- The new numbers are those of homes, no two of one; each name that a note of the graph reads has one, if its home is
  -- one of so many, and the note's scalar is among its readers.
  pub record AreNumbered : Type 0 where
    pub within : (y k : ℕ) → number_in m y ≡ Some k → k < length m.readers.items
    pub apart : (y z k : ℕ) → number_in m y ≡ Some k → number_in m z ≡ Some k → IsRead m y z
    pub given : (x : ℕ) (r : Recipe) → IsNoteIn g x r → (y : ℕ) → Among y (names_in r)
        → number_at (home_by m y) < length m.numbers.items → (k : ℕ) × (number_in m y ≡ Some k)
    pub readers : (x : ℕ) (r : Recipe) → IsNoteIn g x r → AreReadBy m r x
