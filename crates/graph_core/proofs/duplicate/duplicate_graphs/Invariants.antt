use Rattle.std.proofs.Common.{◌≡◌, map, take}
use Rattle.graph_core.specs.Graphs.{graph_view}
use Rattle.graph_core.proofs.duplicate.duplicate_graphs.Given as goal

abbrev pub invariant-loop-graph : goal.invariant-loop-graph
invariant-loop-graph l = map graph_view l.copies.items ≡ map graph_view (take l.graph-index l.graphs)
