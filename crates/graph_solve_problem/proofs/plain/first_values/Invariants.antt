use Rattle.graph_solve_problem.specs.Solution.{control_flow}
use Rattle.graph_solve_problem.specs.Rounds.{AreFirst}
use Rattle.graph_solve_problem.proofs.plain.first_values.Given as goal

abbrev pub invariant-loop-block : goal.invariant-loop-block
invariant-loop-block g l = AreFirst (g.P.Problem.flow l.problem) (control_flow l.graph) l.block l.values.items
