use Rattle.std.proofs.Common.{◌≡◌, ℕ, ◌<◌, ◌&&◌, ◌||◌, length, map}
use Rattle.bit_rows.specs.Grid.{is_set}
use Rattle.graph_core.specs.Graphs.{binding_view}
use Rattle.graph_core.specs.Paths.{is_bound}
use Rattle.home_assign.specs.Table.{AreSameBehind}
use Rattle.home_assign.proofs.walk.Walk.bind.Given as goal

abbrev pub invariant-loop-left : goal.invariant-loop-left
invariant-loop-left l = record {
  names : l.self.names ≡ l.fn.self.names;
  written : (x y : ℕ) → x < l.fn.self.names → (is_set l.self.rows x y || (is_bound x (map binding_view l.left) && is_set l.fn.self.rows l.fn.self.names y)) ≡ (is_set l.fn.self.rows x y || (is_bound x (map binding_view l.parameters) && is_set l.fn.self.rows l.fn.self.names y));
  others : AreSameBehind l.fn.self.names l.fn.self.rows l.self.rows;
}

abbrev pub decreases-loop-left : goal.decreases-loop-left
decreases-loop-left l = length l.left
