use Rattle.graph_solve_live.proofs.Walking.{walk_transfers}
use Rattle.graph_solve_live.proofs.laws.walk_is_transfer.Goals as goal

pub returns : goal.returns
returns g c = walk_transfers (g.P.Problem.flow c.args._problem.now)
