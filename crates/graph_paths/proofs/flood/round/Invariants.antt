use Rattle.graph_paths.specs.Flood.{AreTables, IsStep}
use Rattle.graph_paths.proofs.flood.round.Given as goal

abbrev pub invariant-loop-number : goal.invariant-loop-number
invariant-loop-number g l = record {
  tables : AreTables (g.T.Transfer.course l.transfer) l.comes l.leaves;
  step : IsStep (g.T.Transfer.course l.transfer) l.fn.comes l.fn.leaves l.comes l.leaves l.is_new;
}
