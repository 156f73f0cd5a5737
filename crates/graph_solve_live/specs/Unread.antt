-- One notion of what is live: a name is unread just where no path reads it first.
use Rattle.std.specs.Prelude.{ℕ, ◌↔◌, List}
use Rattle.graph_core.specs.Graphs.{Instruction, End, Graph}
use Rattle.graph_core.specs.Points.{IsUnread}
use Rattle.graph_solve_live.specs.Live.{IsReadFirst}

-- From each point on a name is unread exactly where no path from there on reads it before it writes it.
abbrev pub UnreadIsNotReadFirst : Type 0
UnreadIsNotReadFirst =
    (g : Graph) (x n : ℕ) (rest : List Instruction) (end : End)
    → IsUnread g x n rest end ↔ (IsReadFirst g x rest end → ⊥)
