use Rattle.std.proofs.Common.{◌≡◌, ◌↔◌, ◌≤◌, ℕ, Bool, true, None, List, [], length}
use Rattle.graph_core.specs.Graphs.{Block, block_view}
use Rattle.graph_core.specs.Computations.{Computation}
use Rattle.motion_pass_points.specs.Ways.{IsUsed, within}
use Rattle.motion_pass_points.specs.Words.{has}
use Rattle.motion_pass_points.specs.Columns.{number_at}
use Rattle.motion_pass_problems.specs.Inner.{IsBlock, IsTreated, in_column}
use Rattle.motion_pass_placement.specs.Fates.{AreLate, fate_of}
use Rattle.motion_pass_placement.proofs.Fated.{AreUsedBehind}
use Rattle.motion_pass_placement.proofs.fates.put_used.Given as goal

abbrev pub invariant-loop-left : goal.invariant-loop-left
invariant-loop-left l = record {
  inside : l.left ≤ length l.block.instructions.items;
  size : length l.fates ≡ length l.fn.fates;
  late : (j : ℕ) → (fate_of l.fates j).is_late ≡ (fate_of l.fn.fates j).is_late;
  used : (blocks : List Block) (reached : ℕ → Bool) (n k : ℕ) (e : Computation) → IsBlock blocks reached n (block_view l.block) → IsTreated l.column (block_view l.block) l.numbers k e → AreLate blocks n (block_view l.block) l.numbers k e l.fn.fates
      → ((has l.used_end k ≡ true) ↔ IsUsed blocks e (within n [] (block_view l.block).end)) → AreUsedBehind blocks n (block_view l.block) l.numbers k e l.left l.used l.fates;
  others : (j : ℕ) → in_column l.column.index (number_at l.numbers j) ≡ None → fate_of l.fates j ≡ fate_of l.fn.fates j;
}

abbrev pub decreases-loop-left : goal.decreases-loop-left
decreases-loop-left l = l.left
