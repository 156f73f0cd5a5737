use Rattle.std.proofs.Common.{◌≡◌, ℕ, ◌+◌, ◌<◌, ◌≤◌, ◌⊎◌, ◌↔◌, true, drop, length, map}
use Rattle.bit_rows.specs.Grid.{is_set}
use Rattle.graph_core.specs.Graphs.{end_view, graph_view, instruction_view}
use Rattle.graph_solve_live.specs.Live.{IsReadFirst}
use Rattle.home_assign.specs.Clashes.{ClashesAmong}
use Rattle.home_assign.specs.Table.{AreSameBehind}
use Rattle.home_assign.proofs.walk.Walk.walk_block.Given as goal

abbrev pub invariant-loop-left : goal.invariant-loop-left
invariant-loop-left l = record {
  within : l.left ≤ length l.block.instructions.items;
  names : l.self.names ≡ l.fn.self.names;
  live : (y : ℕ) → y < l.fn.self.names → (is_set l.self.rows l.fn.self.names y ≡ true) ↔ IsReadFirst (graph_view l.graph) y (map instruction_view (drop l.left l.block.instructions.items)) (end_view l.block.end);
  written : (x y : ℕ) → x < l.fn.self.names → y < l.fn.self.names → (is_set l.self.rows x y ≡ true) ↔ ((is_set l.fn.self.rows x y ≡ true) ⊎ ClashesAmong (graph_view l.graph) x y (map instruction_view (drop l.left l.block.instructions.items)) (end_view l.block.end));
  others : AreSameBehind (l.fn.self.names + 1) l.fn.self.rows l.self.rows;
}

abbrev pub decreases-loop-left : goal.decreases-loop-left
decreases-loop-left l = l.left
