-- How often a computation is done along a list of blocks.
use Rattle.std.specs.Prelude.{◌≡◌, ℕ, ◌+◌, ◌<◌, ◌==◌, Bool, if◌then◌else◌, Option, Some, None, List, length, map, slice_get}
use Rattle.graph_core.specs.declared.name.Label as declared-label
use Rattle.graph_core.specs.Graphs.{Instruction, Block}
use Rattle.graph_core.specs.Computations.{Computation}
use Rattle.graph_core.specs.Paths.{Among}
use Rattle.graph_core.specs.Uses.{targets_of}
use Rattle.graph_core.specs.Validity.{total}
use Rattle.motion_pass_points.specs.Computing.{does}

-- whether an instruction does a computation, as a number
abbrev pub once : Computation → Instruction → ℕ
once e i = if does e i then 1 else 0

-- how often a block does it, if there is one
abbrev pub times_in : Computation → Option Block → ℕ
times_in e None = 0
times_in e (Some b) = total (once e) b.instructions

-- HOW OFTEN BLOCKS DO A COMPUTATION, one after the other.
abbrev pub times_along : List Block → Computation → (path : List ℕ) → ℕ
times_along blocks e path = total (times_in e) (map (λ n. slice_get blocks n) path)

-- a label is that of this block
abbrev pub is_label : ℕ → declared-label.Label → Bool
is_label n label = label.0 == n

-- the end of a block leads to another
abbrev pub LeadsTo : List Block → (from to : ℕ) → Type 0
LeadsTo blocks from to = (b : Block) × (slice_get blocks from ≡ Some b) × Among to (targets_of b.end)

-- A LIST OF BLOCKS IS A PATH FROM THE ENTRY: it begins with the first block, each number is that of a block, and each
-- end leads to the block behind.
pub record IsPath (blocks : List Block) (path : List ℕ) : Type 0 where
  pub begins : slice_get path 0 ≡ Some 0
  pub blocks_all : (k n : ℕ) → slice_get path k ≡ Some n → n < length blocks
  pub leads : (k from to : ℕ) → slice_get path k ≡ Some from → slice_get path (k + 1) ≡ Some to → LeadsTo blocks from to

-- So far as the number at an index tells, a list may be such a path: it is that of a block, of the first one at the
-- beginning, and the end of the one before leads to it.
pub record IsEntered (blocks : List Block) (path : List ℕ) (index : ℕ) : Type 0 where
  pub is_block : (n : ℕ) → slice_get path index ≡ Some n → n < length blocks
  pub begins : index ≡ 0 → slice_get path 0 ≡ Some 0
  pub leads : (k from to : ℕ) → k + 1 ≡ index → slice_get path k ≡ Some from → slice_get path index ≡ Some to
      → LeadsTo blocks from to
