use Rattle.std.proofs.Common.{◌+◌, ◌-◌, ◌*◌, if◌then◌else◌}
use Rattle.graph_paths.specs.Flood.{AreTables, AreFurther}
use Rattle.graph_paths.specs.PathMarksTable.{told}
use Rattle.graph_paths.proofs.flood.rounds.Given as goal

abbrev pub invariant-loop-is_new : goal.invariant-loop-is_new
invariant-loop-is_new g l = record {
  tables : AreTables (g.T.Transfer.course l.transfer) l.comes l.leaves;
  further : AreFurther (g.T.Transfer.course l.transfer) l.fn.comes l.fn.leaves l.comes l.leaves;
}

abbrev pub decreases-loop-is_new : goal.decreases-loop-is_new
decreases-loop-is_new g l = l.comes.count * l.comes.width - told l.comes + (if l.is_new then 1 else 0)
