use Rattle.std.proofs.Common.{sym, ap, ◌∙◌}
use Rattle.std.specs.Prelude.{slice_set}
use Rattle.bit_rows.specs.Grid.{row_at}
use Rattle.graph_solve.proofs.RowSets.{absorbed}
use Rattle.graph_solve.proofs.solved_rows.SolvedRows.put_row.Goals as goal

pub returns : goal.returns
returns c =
    let s = c.args.self.now in
    c.pass_into.ensures ∙ ap (slice_set c.args.rows.now c.args.row) (absorbed (row_at c.args.rows.now c.args.row) (row_at s.rows c.args.from) (c.requires.width ∙ sym (s.wide c.args.from c.requires.from)))
