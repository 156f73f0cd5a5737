use Rattle.graph_core.specs.Graphs.{graph_view}
use Rattle.copy_pass_rule.proofs.AlongBlocks.{AreFoundPast}
use Rattle.copy_pass_rule.proofs.finding.find_along.Given as goal

abbrev pub invariant-loop-number : goal.invariant-loop-number
invariant-loop-number l = AreFoundPast (graph_view l.graph) l.order l.number-index l.found.items
