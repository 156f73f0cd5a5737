use Rattle.std.proofs.Common.{◌≡◌, ◌<◌, ◌/◌, ℕ, true, Some, length}
use Rattle.std.specs.Prelude.{slice_get}
use Rattle.graph_core.specs.Graphs.{Block}
use Rattle.graph_core.specs.Computations.{Computation}
use Rattle.motion_pass_points.specs.MotionPointsComputing.{nothing, told_along}
use Rattle.motion_pass_points.specs.Columns.{IsColumn, told_in}
use Rattle.motion_pass_problems.specs.Problems.{local_of}
use Rattle.motion_pass_placement.specs.Columns.{all_in, blocks_in, reached_in}
use Rattle.motion_pass_placement.proofs.columns.Placing.locals.Given as goal

abbrev pub invariant-loop-number : goal.invariant-loop-number
invariant-loop-number l = record {
  count : length l.locals.items ≡ l.number;
  each : (n : ℕ) → n < l.number → IsColumn (all_in l.self) l.column.index l.column.spoiled.items → (k : ℕ) (e : Computation) → k / 64 ≡ l.column.index → slice_get (all_in l.self) k ≡ Some e
      → (b : Block) → slice_get (blocks_in l.self) n ≡ Some b → reached_in l.self n ≡ true → told_in (local_of l.locals.items n) k ≡ told_along e b.instructions nothing;
}
