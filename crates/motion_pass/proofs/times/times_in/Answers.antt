use Rattle.std.proofs.Common.{rules, tests}
use Rattle.std.proofs.lemmas.Iterator.{YieldsList-from_slice}
use Rattle.graph_core.specs.Graphs.{instruction_view}
use Rattle.graph_core.proofs.Lists.{adds_up}
use Rattle.motion_pass_points.specs.MotionPointsComputing.{computation_view}
use Rattle.motion_pass.specs.Counts.{once}
use Rattle.motion_pass.proofs.times.times_in.Goals as goal

pub returns : goal.returns
returns c = adds_up (once (computation_view c.args.e.now)) instruction_view _ _ c.fold.ensures.ran (YieldsList-from_slice c.args.instructions.now cc) (λ a x b q k. search (rules, tests))
