-- Lists of blocks and the paths that they name.
use Rattle.std.specs.Prelude.{◌≡◌, ℕ, List, [], ◌∷◌, reverse}
use Rattle.graph_core.specs.Graphs.{Instruction, End, Graph}
use Rattle.graph_core.specs.Paths.{History, Path}
use Rattle.motion_pass_laws.specs.Optimal.{entered}

-- THE BLOCKS ON A PATH, in order: the first of the function, and then those that were entered along edges.
abbrev pub blocks_on : {g : Graph} {history : History} {n : ℕ} {rest : List Instruction} {f : End}
    → Path g history n rest f → List ℕ
blocks_on way = 0 ∷ reverse (entered way)

-- A LIST OF BLOCKS NAMES A PATH: these are the blocks on it, and it goes to the end of the last one.
pub record NamesPath (g : Graph) (blocks : List ℕ) : Type 0 where
  pub history : History
  pub number : ℕ
  pub end : End
  pub way : Path g history number [] end
  pub blocks_are : blocks_on way ≡ blocks
