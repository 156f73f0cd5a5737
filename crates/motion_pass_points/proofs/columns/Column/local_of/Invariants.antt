use Rattle.std.proofs.Common.{◌≡◌, ◌/◌, ℕ, Some, map, drop}
use Rattle.std.specs.Prelude.{slice_get}
use Rattle.graph_core.specs.Graphs.{instruction_view}
use Rattle.graph_core.specs.Computations.{Computation}
use Rattle.motion_pass_points.specs.MotionPointsComputing.{nothing, told_along}
use Rattle.motion_pass_points.specs.Numbers.{AreNumbers, views_of}
use Rattle.motion_pass_points.specs.Columns.{AreNumbersAlong, IsColumn, told_in}
use Rattle.motion_pass_points.proofs.columns.Column.local_of.Given as goal

abbrev pub invariant-loop-index : goal.invariant-loop-index
invariant-loop-index l = IsColumn (views_of l.all) l.self.index l.self.spoiled.items → AreNumbers l.all → AreNumbersAlong (views_of l.all) (map instruction_view l.block.instructions.items) l.numbers → (n : ℕ) (e : Computation) → n / 64 ≡ l.self.index → slice_get (views_of l.all) n ≡ Some e
    → told_along e (map instruction_view (drop l.index l.block.instructions.items)) (told_in l.local n) ≡ told_along e (map instruction_view l.block.instructions.items) nothing
