use Rattle.std.proofs.Common.{length, map, take}
use Rattle.graph_solve_problem.specs.Rounds.{directed}
use Rattle.graph_solve.specs.Work.{AreTargets}
use Rattle.graph_solve.proofs.task.targets_of.Given as goal

abbrev pub invariant-loop-edge : goal.invariant-loop-edge
invariant-loop-edge l = AreTargets (map (directed l.forward) (take l.edge-index l.graph.edges.items)) (length l.graph.ends.items) l.targets.items
