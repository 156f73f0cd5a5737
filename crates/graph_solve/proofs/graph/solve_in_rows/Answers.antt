use Rattle.std.proofs.Common.{arith}
use Rattle.graph_solve.proofs.graph.solve_in_rows.Goals as goal

pub tables_of-requires : goal.tables_of-requires
tables_of-requires g c = omega (arith, c.requires.few, c.in_ok-flow.ensures.are.each)
