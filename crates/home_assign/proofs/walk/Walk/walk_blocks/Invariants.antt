use Rattle.std.proofs.Common.{◌≡◌, ℕ, ◌+◌, ◌<◌, ◌↔◌, true}
use Rattle.bit_rows.specs.Grid.{is_set}
use Rattle.graph_core.specs.Graphs.{graph_view}
use Rattle.home_assign.proofs.Clashing.{ClashesBefore}
use Rattle.home_assign.specs.Table.{AreSameBehind}
use Rattle.home_assign.proofs.walk.Walk.walk_blocks.Given as goal

abbrev pub invariant-loop-number : goal.invariant-loop-number
invariant-loop-number l = record {
  names : l.self.names ≡ l.fn.self.names;
  written : (x y : ℕ) → x < l.fn.self.names → y < l.fn.self.names → (is_set l.self.rows x y ≡ true) ↔ ClashesBefore (graph_view l.graph) x y l.number;
  others : AreSameBehind (l.fn.self.names + 1) l.fn.self.rows l.self.rows;
}
