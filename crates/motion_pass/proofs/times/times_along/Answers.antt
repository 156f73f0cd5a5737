use Rattle.std.proofs.Common.{ℕ, rules, tests}
use Rattle.std.specs.Prelude.{slice_get}
use Rattle.std.proofs.lemmas.Iterator.{YieldsList-from_slice}
use Rattle.graph_core.specs.Graphs.{graph_view}
use Rattle.graph_core.proofs.Lists.{adds_up}
use Rattle.motion_pass_points.specs.MotionPointsComputing.{computation_view}
use Rattle.motion_pass.specs.Counts.{times_in}
use Rattle.motion_pass.proofs.times.times_along.Goals as goal

pub returns : goal.returns
returns c = adds_up (times_in (computation_view c.args.e.now)) (λ (n : ℕ). slice_get (graph_view c.args.graph.now).blocks n) _ _ c.fold.ensures.ran (YieldsList-from_slice c.args.path.now cc) (λ a x b q k. search (rules, tests))
