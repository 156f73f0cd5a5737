-- Units of one run.
use Rattle.std.specs.Prelude.{◌≡◌, ℕ, List}
use Rattle.graph_core.specs.Graphs.{UnitForm}
use Rattle.graph_core.specs.Runs.{unit_run}

-- Two units run the same: on each input, in each number of steps, the same is seen of both.
abbrev pub RunTheSame : UnitForm → UnitForm → Type 0
RunTheSame u v = (input : List ℕ) (steps : ℕ) → unit_run v input steps ≡ unit_run u input steps
