use Rattle.std.proofs.Common.{◌+◌, ◌≤◌, length, map}
use Rattle.graph_core.specs.Graphs.{instruction_view}
use Rattle.motion_pass_points.specs.MotionPointsComputing.{computed_along}
use Rattle.motion_pass_points.specs.Numbers.{AreNumbers, views_of}
use Rattle.motion_pass_points.proofs.Passing.{ArePassed}
use Rattle.motion_pass_points.proofs.computations.Computations.add_block.Given as goal

abbrev pub invariant-loop-ahead : goal.invariant-loop-ahead
invariant-loop-ahead l = record {
  numbers : AreNumbers l.self;
  few : length l.self.all.items + length (computed_along (map instruction_view l.ahead)) ≤ length l.fn.self.all.items + length (computed_along (map instruction_view l.block.instructions.items));
  passed : ArePassed (views_of l.fn.self) (views_of l.self) (computed_along (map instruction_view l.block.instructions.items)) (computed_along (map instruction_view l.ahead));
}

abbrev pub decreases-loop-ahead : goal.decreases-loop-ahead
decreases-loop-ahead l = length l.ahead
