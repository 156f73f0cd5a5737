use Rattle.std.proofs.Common.{◌≡◌, ℕ, ◌<◌, false, length}
use Rattle.std.specs.Prelude.{slice_index_or}
use Rattle.graph_paths.specs.PathMarksTable.{bits_of}
use Rattle.motion_pass_problems.proofs.reach.reached_flags.Given as goal

abbrev pub invariant-loop-number : goal.invariant-loop-number
invariant-loop-number l = record {
  size : length l.flags.items ≡ l.number;
  same : (n : ℕ) → n < l.number → slice_index_or l.flags.items n false ≡ bits_of l.led 0 n;
}
