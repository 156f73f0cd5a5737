use Rattle.std.proofs.Common.{◌≡◌, map, take}
use Rattle.graph_core.specs.declared.graph.Graph.{Graph}
use Rattle.graph_core.specs.Graphs.{block_view}
use Rattle.image_build_tables.specs.Rows.{firsts_from}
use Rattle.image_build_tables.proofs.rows.all_before.Given as goal

abbrev pub invariant-loop-graph : goal.invariant-loop-graph
invariant-loop-graph l = map (λ firsts. firsts.items) l.all.items ≡ map (λ (g : Graph). firsts_from 0 (map block_view g.blocks.items)) (take l.graph-index l.graphs)
