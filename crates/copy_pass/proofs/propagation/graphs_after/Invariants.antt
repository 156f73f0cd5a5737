use Rattle.std.proofs.Common.{length, map}
use Rattle.std.specs.List.{AllByRecursion}
use Rattle.graph_core.specs.Graphs.{graph_view}
use Rattle.copy_pass_rule.specs.Copying.{IsPropagated}
use Rattle.copy_pass_rule.specs.Countable.{IsCountable}
use Rattle.pass_law.proofs.Functions.{Left}
use Rattle.copy_pass.proofs.propagation.graphs_after.Given as goal

abbrev pub invariant-loop-left : goal.invariant-loop-left
invariant-loop-left l = record {
  countable : AllByRecursion IsCountable (map graph_view l.left);
  made : Left IsPropagated (map graph_view l.fn.graphs) (map graph_view l.made.items) (map graph_view l.left);
}

abbrev pub decreases-loop-left : goal.decreases-loop-left
decreases-loop-left l = length l.left
