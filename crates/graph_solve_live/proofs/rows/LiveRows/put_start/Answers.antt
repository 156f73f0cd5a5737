use Rattle.std.proofs.Common.{Some, sym, ap, ◌∙◌}
use Rattle.graph_solve.proofs.Bitsets.{at_sets}
use Rattle.graph_solve_live.proofs.rows.LiveRows.put_start.Goals as goal

pub returns-clause-here : goal.returns-clause-here
returns-clause-here c =
    let s = c.args.self.now in
    at_sets s.starts.rows s.blocks c.args.block c.requires.block ∙ ap Some (sym c.put_row.ensures.here)
