-- Which points of a graph paths reach.
use Rattle.std.specs.Prelude.{◌≡◌, ℕ, ◌<◌, Bool, true, Some, List, length, slice_get}
use Rattle.graph_core.specs.Graphs.{Instruction, End, Block, Graph}
use Rattle.graph_core.specs.Uses.{targets_of}
use Rattle.graph_core.specs.Paths.{History, Among, Path}
use Rattle.graph_paths.specs.Flood.{Course}

-- Some path from the entry leads to a point.
pub record IsReached (g : Graph) (n : ℕ) (rest : List Instruction) (e : End) : Type 0 where
  pub history : History
  pub path : Path g history n rest e

-- some way leads from the first block to this one
pub data IsLed (blocks : List Block) : ℕ → Type 0 where
  entry : IsLed blocks 0
  leads : {n l : ℕ} (b : Block) → IsLed blocks n → slice_get blocks n ≡ Some b → Among l (targets_of b.end)
      → IsLed blocks l

-- a block to which some way leads leads on to blocks to which one does
abbrev pub LeadsOn : List Block → (led : ℕ → Bool) → (n : ℕ) → Type 0
LeadsOn blocks led n =
    (b : Block) (l : ℕ) → slice_get blocks n ≡ Some b → led n ≡ true → Among l (targets_of b.end) → l < length blocks
    → led l ≡ true

-- The blocks to which some way leads are told: no others, and all.
pub record AreLed (blocks : List Block) (led : ℕ → Bool) : Type 0 where
  pub first : led 0 ≡ true
  pub is_led : (n : ℕ) → led n ≡ true → IsLed blocks n
  pub leads_on : (n : ℕ) → LeadsOn blocks led n

-- how one fact flows through all blocks: that some way leads to them
abbrev pub leading : List Block → Course
leading blocks =
    record { blocks = blocks; is_open = λ block. true; forward = true; width = 1; does = λ block fact before. before }
