-- Units of which one follows the other.
use Rattle.std.specs.Prelude.{ℕ, List}
use Rattle.event_runs.specs.Following.{Reached}
use Rattle.graph_core.specs.Graphs.{UnitForm}
use Rattle.graph_core.specs.Runs.{unit_run}
use Rattle.pass_law.specs.Keeps.{SameEvent}

-- On each input, whatever can be seen of the first unit in any number of steps, the second one comes to: each event the
-- same, but that shadows may be gone.
abbrev pub Follows : UnitForm → UnitForm → Type 0
Follows u v = (input : List ℕ) (n : ℕ) → Reached SameEvent (unit_run u input n) (unit_run v input)
