use Rattle.std.proofs.Common.{◌≡◌, ℕ, Some, length}
use Rattle.std.specs.Prelude.{slice_get}
use Rattle.motion_pass_placement.specs.declared.columns.Solved.{Solved}
use Rattle.motion_pass_placement.specs.Columns.{IsSolved}
use Rattle.motion_pass_placement.proofs.columns.Placing.columns.Given as goal

abbrev pub invariant-loop-index : goal.invariant-loop-index
invariant-loop-index l = record {
  count : length l.columns.items ≡ l.index;
  each : (index : ℕ) (s : Solved) → slice_get l.columns.items index ≡ Some s → IsSolved l.self index s;
}
