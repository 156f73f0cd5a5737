use Rattle.std.proofs.Common.{◌≡◌, ◌++◌, ℕ, length, map}
use Rattle.graph_core.specs.Graphs.{block_view}
use Rattle.image_build_tables.specs.Variables.{bounded_count}
use Rattle.image_build_tables.specs.Rows.{firsts_from}
use Rattle.image_build_tables.proofs.rows.instructions_before.Given as goal

abbrev pub invariant-loop-left : goal.invariant-loop-left
invariant-loop-left l =
    (sum : ℕ) × (l.count ≡ bounded_count sum) × (l.counts.items ++ firsts_from sum (map block_view l.left) ≡ firsts_from 0 (map block_view l.blocks))

abbrev pub decreases-loop-left : goal.decreases-loop-left
decreases-loop-left l = length l.left
