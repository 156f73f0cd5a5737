use Rattle.std.proofs.Common.{◌≡◌, length, take}
use Rattle.std.specs.List.{sum_by}
use Rattle.graph_core.specs.Graphs.{Block, graph_view}
use Rattle.graph_core.specs.Uses.{targets_of}
use Rattle.graph_solve.specs.GraphFlow.{AreFlow}
use Rattle.graph_solve.proofs.graph.flow_graph.Given as goal

abbrev pub invariant-loop-from : goal.invariant-loop-from
invariant-loop-from l = record {
  are : AreFlow (graph_view l.graph) l.from l.ends.items l.edges.items;
  count : length l.edges.items ≡ sum_by (λ (b : Block). length (targets_of b.end)) (take l.from (graph_view l.graph).blocks);
}
