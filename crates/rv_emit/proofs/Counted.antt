-- How many instructions the blocks of a graph have.
use Rattle.std.proofs.Common.{◌≡◌, ◌+◌, List, [], ◌∷◌, length, refl, ap}
use Rattle.graph_core.specs.Graphs.{Block}
use Rattle.graph_core.specs.Validity.{total}
use Rattle.rv_emit_runs.specs.Told.{instructions_before}

-- The instructions that stand before the end of all blocks are those of all blocks.
pub all_before : (blocks : List Block) → total (λ (b : Block). length b.instructions) blocks ≡ instructions_before blocks (length blocks)
all_before [] = refl
all_before (b ∷ more) = ap (λ n. length b.instructions + n) (all_before more)
