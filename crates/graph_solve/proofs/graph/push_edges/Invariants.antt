use Rattle.std.proofs.Common.{◌≡◌, ◌++◌, map, take}
use Rattle.graph_core.specs.declared.name.Label.{Label}
use Rattle.graph_solve.specs.GraphFlow.{edge_from}
use Rattle.graph_solve.proofs.graph.push_edges.Given as goal

abbrev pub invariant-loop-target : goal.invariant-loop-target
invariant-loop-target l = l.edges.items ≡ l.fn.edges.items ++ map (λ (label : Label). edge_from l.from label.0) (take l.target-index l.target-items)
