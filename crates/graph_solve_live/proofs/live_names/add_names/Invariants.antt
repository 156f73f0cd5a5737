use Rattle.std.proofs.Common.{◌≡◌, drop}
use Rattle.graph_core.specs.Uses.{numbers}
use Rattle.graph_solve_live.specs.Live.{with_names}
use Rattle.graph_solve_live.proofs.live_names.add_names.Given as goal

abbrev pub invariant-loop-name : goal.invariant-loop-name
invariant-loop-name l = with_names l.width (numbers (drop l.name-index l.names)) l.live ≡ with_names l.width (numbers l.names) l.fn.live
