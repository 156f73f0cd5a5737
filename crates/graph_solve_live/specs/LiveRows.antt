-- What rows of bits tell of live names, as sets.
use Rattle.std.specs.Prelude.{List}
use Rattle.graph_solve_live.specs.declared.rows.LiveRows.{LiveRows}
use Rattle.graph_solve_problem.specs.Numbers.{Numbers}
use Rattle.graph_solve.specs.Rows.{sets_at}

-- the names that are live at the starts of blocks
abbrev pub starts_of : LiveRows → List Numbers
starts_of live = sets_at live.starts.rows 0 live.blocks

-- the names that are live at the ends of blocks
abbrev pub ends_of : LiveRows → List Numbers
ends_of live = sets_at live.ends.rows 0 live.blocks
