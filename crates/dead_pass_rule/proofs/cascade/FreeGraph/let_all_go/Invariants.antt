use Rattle.std.proofs.Common.{◌≡◌, ◌+◌, ◌<◌, ◌≤◌, ℕ, true, false}
use Rattle.graph_paths.specs.PathMarksTable.{bits_of}
use Rattle.dead_pass_rule.specs.Cascade.{AllNeeded, AreAllAsked, Cascades}
use Rattle.dead_pass_rule.specs.Cascading.{assignments_of, graph_of}
use Rattle.dead_pass_rule.specs.Walks.{turn_of}
use Rattle.dead_pass_rule.proofs.cascade.FreeGraph.let_all_go.Given as goal

abbrev pub invariant-loop-passed : goal.invariant-loop-passed
invariant-loop-passed l = record {
  cascades : Cascades (assignments_of l.self) (graph_of l.self) l.fn.turns l.fn.marks l.turns l.marks l.is_less;
  needed :
      l.is_less ≡ false → AreAllAsked (graph_of l.self) l.fn.turns l.fn.marks → (m : ℕ) → m < l.self.count → l.self.count ≤ m + l.passed → bits_of l.self.reached.now 0 m ≡ true
      → AllNeeded (assignments_of l.self) (graph_of l.self) (turn_of l.fn.turns) m;
}
