use Rattle.std.proofs.Common.{ℕ, ◌<◌}
use Rattle.graph_core.specs.Graphs.{graph_view}
use Rattle.motion_pass.specs.Counts.{IsEntered}
use Rattle.motion_pass.proofs.times.is_path.Given as goal

abbrev pub invariant-loop-index : goal.invariant-loop-index
invariant-loop-index l = (k : ℕ) → k < l.index → IsEntered (graph_view l.graph).blocks l.path k
