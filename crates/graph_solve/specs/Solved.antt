-- What rows of bits say of a problem's solution.
use Rattle.std.specs.Prelude.{if◌then◌else◌, List}
use Rattle.graph_solve.specs.declared.solved_rows.SolvedRows.{SolvedRows}
use Rattle.graph_solve_problem.specs.Numbers.{Numbers}
use Rattle.graph_solve.specs.Rows.{sets_at}

-- the facts at the starts of blocks
abbrev pub starts_of : SolvedRows → List Numbers
starts_of solved =
    if solved.forward then sets_at solved.rows 0 solved.blocks else sets_at solved.rows solved.blocks solved.blocks

-- the facts at the ends of blocks
abbrev pub ends_of : SolvedRows → List Numbers
ends_of solved =
    if solved.forward then sets_at solved.rows solved.blocks solved.blocks else sets_at solved.rows 0 solved.blocks
