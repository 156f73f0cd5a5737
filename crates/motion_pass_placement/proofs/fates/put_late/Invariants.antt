use Rattle.std.proofs.Common.{◌≡◌, ◌↔◌, ℕ, Bool, true, None, List, length}
use Rattle.graph_core.specs.Graphs.{Block, block_view}
use Rattle.graph_core.specs.Computations.{Computation}
use Rattle.motion_pass_points.specs.Ways.{IsPast}
use Rattle.motion_pass_points.specs.Words.{has}
use Rattle.motion_pass_points.specs.Columns.{number_at}
use Rattle.motion_pass_problems.specs.Inner.{IsBlock, IsTreated, in_column, point_at}
use Rattle.motion_pass_placement.specs.Fates.{fate_of}
use Rattle.motion_pass_placement.proofs.Fated.{AreLateBefore}
use Rattle.motion_pass_placement.proofs.fates.put_late.Given as goal

abbrev pub invariant-loop-index : goal.invariant-loop-index
invariant-loop-index l = record {
  size : length l.fates ≡ length l.fn.fates;
  late : (blocks : List Block) (reached : ℕ → Bool) (n k : ℕ) (e : Computation) → IsBlock blocks reached n (block_view l.block) → IsTreated l.column (block_view l.block) l.numbers k e
      → ((has l.past_start k ≡ true) ↔ IsPast blocks e (point_at n (block_view l.block) 0)) → AreLateBefore blocks n (block_view l.block) l.numbers k e l.index l.past l.fates;
  others : (j : ℕ) → in_column l.column.index (number_at l.numbers j) ≡ None → fate_of l.fates j ≡ fate_of l.fn.fates j;
}
