use Rattle.std.proofs.Common.{◌≡◌, ℕ, ◌<◌, false}
use Rattle.graph_paths.specs.Flood.{AreTables, IsStep, IsClosedAt, block_at}
use Rattle.graph_paths.specs.PathMarksTable.{bits_of}
use Rattle.graph_paths.proofs.flood.whole_round.Given as goal

abbrev pub invariant-loop-turn : goal.invariant-loop-turn
invariant-loop-turn g l = record {
  tables : AreTables (g.T.Transfer.course l.transfer) l.comes l.leaves;
  step : IsStep (g.T.Transfer.course l.transfer) l.fn.comes l.fn.leaves l.comes l.leaves l.is_new;
  closed : l.is_new ≡ false → (k : ℕ) → k < l.turn → IsClosedAt (g.T.Transfer.course l.transfer) (block_at l.forward l.count k) (bits_of l.comes) (bits_of l.leaves);
}
