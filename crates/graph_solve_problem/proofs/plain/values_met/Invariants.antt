use Rattle.std.proofs.Common.{◌≡◌, length}
use Rattle.graph_solve_problem.specs.Solution.{control_flow}
use Rattle.graph_solve_problem.specs.Rounds.{AreFalling, falls_left}
use Rattle.graph_solve_problem.proofs.plain.values_met.Given as goal

abbrev pub invariant-loop-counts : goal.invariant-loop-counts
invariant-loop-counts g l = record {
  state : AreFalling (g.P.Problem.flow l.problem) (control_flow l.graph) l.values.items l.counts.items;
  size : length l.values.items ≡ length l.graph.ends.items;
}

abbrev pub decreases-loop-counts : goal.decreases-loop-counts
decreases-loop-counts g l = falls_left l.height l.counts.items
