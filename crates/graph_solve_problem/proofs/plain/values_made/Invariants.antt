use Rattle.graph_solve_problem.specs.Rounds.{AreMade}
use Rattle.graph_solve_problem.proofs.plain.values_made.Given as goal

abbrev pub invariant-loop-block : goal.invariant-loop-block
invariant-loop-block g l = AreMade (g.P.Problem.flow l.problem) l.values l.block l.made.items
