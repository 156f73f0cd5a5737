use Rattle.std.proofs.Common.{◌≡◌, ℕ, ◌<◌, ◌==◌, ◌||◌, length}
use Rattle.std.specs.List.{list_any}
use Rattle.bit_rows.specs.Grid.{is_set}
use Rattle.graph_core.specs.Uses.{numbers}
use Rattle.home_assign.specs.Table.{AreSameBut}
use Rattle.home_assign.proofs.walk.Walk.read.Given as goal

abbrev pub invariant-loop-left : goal.invariant-loop-left
invariant-loop-left l = record {
  names : l.self.names ≡ l.fn.self.names;
  live : (y : ℕ) → y < l.fn.self.names → (list_any (λ z. z == y) (numbers l.left) || is_set l.self.rows l.fn.self.names y) ≡ (list_any (λ z. z == y) (numbers l.names) || is_set l.fn.self.rows l.fn.self.names y);
  others : AreSameBut l.fn.self.names l.fn.self.rows l.self.rows;
}

abbrev pub decreases-loop-left : goal.decreases-loop-left
decreases-loop-left l = length l.left
