use Rattle.std.proofs.Common.{map}
use Rattle.graph_core.specs.Graphs.{graph_view}
use Rattle.pass_law.proofs.OfFunctions.{AreCasesBelow}
use Rattle.copy_pass.specs.Reads.{IsReplacedRead}
use Rattle.copy_pass.proofs.replaced_reads_graphs.replaced_reads.Given as goal

abbrev pub invariant-loop-number : goal.invariant-loop-number
invariant-loop-number l = AreCasesBelow IsReplacedRead (map graph_view l.was) (map graph_view l.is) l.number l.cases.items
