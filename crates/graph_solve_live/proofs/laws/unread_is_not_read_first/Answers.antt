use Rattle.graph_solve_live.proofs.Unread.{unread_first, first_unread}
use Rattle.graph_solve_live.proofs.laws.unread_is_not_read_first.Goals as goal

pub returns : goal.returns
returns c = λ g x n rest end. (unread_first g x n rest end, first_unread g x n rest end)
