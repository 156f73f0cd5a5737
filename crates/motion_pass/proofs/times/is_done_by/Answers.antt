use Rattle.std.proofs.Common.{sym, ap, ◌∙◌}
use Rattle.std.specs.Prelude.{option_map}
use Rattle.graph_core.specs.Graphs.{instruction_view}
use Rattle.motion_pass_points.specs.MotionPointsComputing.{computation_view}
use Rattle.motion_pass.proofs.Entering.{does_by}
use Rattle.motion_pass.proofs.times.is_done_by.Goals as goal

pub returns-in-Some : goal.returns-in-Some
returns-in-Some c = does_by c.args.e.now c.in-Some.done (instruction_view c.args.instruction.now) c.is_one.result (ap (option_map computation_view) (sym c.in-Some.is) ∙ c.of.ensures) c.is_one.ensures
