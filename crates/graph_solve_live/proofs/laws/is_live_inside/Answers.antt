use Rattle.graph_solve_live.proofs.Living.{live_inside}
use Rattle.graph_solve_live.proofs.laws.is_live_inside.Goals as goal

pub returns : goal.returns
returns c = live_inside
