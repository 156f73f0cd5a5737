use Rattle.std.proofs.Common.{◌*◌, ◌≤◌, length, map}
use Rattle.graph_core.specs.Graphs.{block_view}
use Rattle.motion_pass.specs.Placing.{blocks_of, first_of, treated_in}
use Rattle.motion_pass.proofs.Moved.{AreBehind}
use Rattle.motion_pass.proofs.moving.Moving.blocks.Given as goal

abbrev pub invariant-loop-number : goal.invariant-loop-number
invariant-loop-number l = record {
  count : length l.added.items ≤ 2 * l.number;
  moved : AreBehind (blocks_of l.self) (first_of l.self) (treated_in l.self) (blocks_of l.self) (length (blocks_of l.self)) l.number (map block_view l.moved.items) (map block_view l.added.items);
}
