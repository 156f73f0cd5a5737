use Rattle.std.proofs.Common.{length, map}
use Rattle.graph_core.specs.Graphs.{graph_view, instruction_view}
use Rattle.copy_pass_rule.proofs.AlongBlocks.{AreFoundSoFar}
use Rattle.copy_pass_rule.proofs.finding.find_in.Given as goal

abbrev pub invariant-loop-ahead : goal.invariant-loop-ahead
invariant-loop-ahead l = AreFoundSoFar (graph_view l.graph) l.number (map instruction_view l.ahead) l.fn.found.items l.found.items

abbrev pub decreases-loop-ahead : goal.decreases-loop-ahead
decreases-loop-ahead l = length l.ahead
