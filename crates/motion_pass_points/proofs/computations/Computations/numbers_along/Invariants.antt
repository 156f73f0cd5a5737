use Rattle.std.proofs.Common.{◌≡◌, ◌<◌, ℕ, Some, length, map}
use Rattle.std.specs.Prelude.{slice_get}
use Rattle.graph_core.specs.Graphs.{Instruction, instruction_view}
use Rattle.graph_core.specs.Computations.{computed_by}
use Rattle.motion_pass_points.specs.Numbers.{AreNumbers, IsNumberOf, views_of}
use Rattle.motion_pass_points.specs.Columns.{number_at}
use Rattle.motion_pass_points.proofs.computations.Computations.numbers_along.Given as goal

abbrev pub invariant-loop-index : goal.invariant-loop-index
invariant-loop-index l = record {
  count : length l.numbers.items ≡ l.index;
  along : AreNumbers l.self → (k : ℕ) (i : Instruction) → k < l.index → slice_get (map instruction_view l.block.instructions.items) k ≡ Some i → IsNumberOf (views_of l.self) (computed_by i) (number_at l.numbers.items k);
}
