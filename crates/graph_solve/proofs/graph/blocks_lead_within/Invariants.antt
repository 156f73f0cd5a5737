use Rattle.std.proofs.Common.{◌≡◌, drop, length, map}
use Rattle.graph_core.specs.Graphs.{block_view}
use Rattle.graph_solve.specs.GraphFlow.{lead_within}
use Rattle.graph_solve.proofs.graph.blocks_lead_within.Given as goal

abbrev pub invariant-loop-block : goal.invariant-loop-block
invariant-loop-block l = lead_within (length l.blocks) (map block_view (drop l.block-index l.blocks)) ≡ lead_within (length l.blocks) (map block_view l.blocks)
