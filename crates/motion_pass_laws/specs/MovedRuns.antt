-- Runs of one unit that another comes to.
use Rattle.std.specs.Prelude.{◌≡◌, ℕ, List}
use Rattle.graph_core.specs.Graphs.{UnitForm}
use Rattle.graph_core.specs.Runs.{unit_run}

-- Whatever is seen of the first unit on an input, in any number of steps, is all that is seen of the second on it, in
-- some number of steps.
abbrev pub ShowsTheSame : UnitForm → UnitForm → Type 0
ShowsTheSame u v = (input : List ℕ) (n : ℕ) → (steps : ℕ) × (unit_run v input steps ≡ unit_run u input n)
