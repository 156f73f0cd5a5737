use Rattle.std.proofs.Common.{◌≡◌, map, take}
use Rattle.graph_core.specs.Graphs.{block_view}
use Rattle.graph_core.proofs.graph.Graph.duplicate.Given as goal

abbrev pub invariant-loop-block : goal.invariant-loop-block
invariant-loop-block l = map block_view l.blocks.items ≡ map block_view (take l.block-index l.block-items)
