use Rattle.std.proofs.Common.{Some, List, Bool, sym, ap, ◌∙◌, subst}
use Rattle.bit_rows.specs.Grid.{row_at}
use Rattle.graph_solve.specs.Rows.{AreSameElsewhere, set_at}
use Rattle.graph_solve.proofs.Bitsets.{there_same}
use Rattle.graph_solve.proofs.RowSets.{row_elsewhere}
use Rattle.graph_solve.proofs.solved_rows.SolvedRows.put_start.Goals as goal

pub returns-clause-elsewhere : goal.returns-clause-elsewhere
returns-clause-elsewhere c =
    let s = c.args.self.now in
    subst (λ (rows : List (List Bool)). AreSameElsewhere c.args.row c.args.rows.now rows) (sym c.put_row.ensures)
    (row_elsewhere c.args.rows.now c.args.row (row_at s.rows c.start_row.result) c.requires.row (s.wide c.start_row.result c.start_row.ensures.within ∙ sym c.requires.width))

pub returns-clause-here : goal.returns-clause-here
returns-clause-here c =
    let s = c.args.self.now in
    c.start_row.ensures.at ∙ ap Some (sym (ap (λ rows. set_at rows c.args.row) c.put_row.ensures ∙ there_same c.args.rows.now c.args.row (row_at s.rows c.start_row.result) c.requires.row))
