-- Where the code of a function stands in the code of the machine: its beginning, each of its blocks, and its end.
use Rattle.std.specs.Prelude.{◌≡◌, ◌≢◌, ℕ, ◌<◌, ◌≤◌, ◌⊎◌, Bool, Some, List, [], length, slice_get}
use Rattle.graph_core.specs.Graphs.{Block, Graph}
use Rattle.graph_core.specs.Paths.{Among}
use Rattle.graph_core.specs.Uses.{targets_of}
use Rattle.rv_emit_words.specs.declared.piece.Held.{Held}
use Rattle.rv_emit_steps.specs.Programs.{Program}
use Rattle.rv_emit_runs.specs.Pieces.{Targets}
use Rattle.rv_emit_runs.specs.Placed.{PlacedAt}
use Rattle.rv_emit_code.specs.Blocks.{block_code}
use Rattle.rv_emit_sequence.specs.Sequences.{Ground, first_pieces, last_pieces, AreConstants, Holds}

-- The code of a block stands from its label on, up to the label of what stands next, where it is to end. It loads
-- constants, and behind it is held what is to be held where its end leads.
pub record IsBlockPlaced (p : Program) (t : Targets) (g : Ground) (at : ℕ → List Held) (until : ℕ → ℕ) (l : ℕ)
    (b : Block) : Type 0 where
  pub next : ℕ
  pub ends : t.label next ≡ until l
  pub loads : List Held
  pub there : PlacedAt p t (t.label l) (block_code g.storage g.entry g.saved g.size g.end next (at l) loads b).pieces
      (t.label next)
  pub constants : AreConstants loads
  pub leads : (m : ℕ) → Among m (targets_of b.end)
      → Holds (block_code g.storage g.entry g.saved g.size g.end next (at l) loads b).held (at m)

-- The code of a function stands from an index on, up to another: its beginning, up to the label of its first block,
-- where nothing is held; its blocks; and from the label of its end on its end. Each block ends somewhere, and no two of
-- them share a word.
pub record IsFunctionPlaced (p : Program) (t : Targets) (g : Ground) (f : Graph) (is_main : Bool) (until : ℕ → ℕ)
    (first behind : ℕ) : Type 0 where
  pub at : ℕ → List Held
  pub start : at 0 ≡ []
  pub constants : (n : ℕ) → AreConstants (at n)
  pub begins : PlacedAt p t first (first_pieces g f is_main) (t.label 0)
  pub blocks : (l : ℕ) (b : Block) → slice_get f.blocks l ≡ Some b → IsBlockPlaced p t g at until l b
  pub ends : PlacedAt p t (t.label g.end) (last_pieces g) behind
  pub ordered : (first ≤ t.label 0) × (t.label 0 ≤ t.label g.end)
  pub inside : (l : ℕ) → l < length f.blocks
      → (t.label 0 ≤ t.label l) × (t.label l ≤ until l) × (until l ≤ t.label g.end)
  pub apart : (i j : ℕ) → i < length f.blocks → j < length f.blocks → i ≢ j
      → (until i ≤ t.label j) ⊎ (until j ≤ t.label i)
