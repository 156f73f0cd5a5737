use Rattle.std.proofs.Common.{◌≡◌, map, take}
use Rattle.graph_solve_problem.specs.Rounds.{directed}
use Rattle.graph_solve_problem.proofs.directed.directed_edges.Given as goal

abbrev pub invariant-loop-edge : goal.invariant-loop-edge
invariant-loop-edge l = l.edges.items ≡ map (directed l.forward) (take l.edge-index l.graph.edges.items)
