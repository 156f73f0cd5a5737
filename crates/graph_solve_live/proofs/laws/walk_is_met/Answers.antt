use Rattle.graph_solve_live.proofs.Walking.{walk_met}
use Rattle.graph_solve_live.proofs.laws.walk_is_met.Goals as goal

pub returns : goal.returns
returns g c = walk_met (g.P.Problem.flow c.args._problem.now)
