use Rattle.std.proofs.Common.{◌≡◌, ◌+◌, false, if◌then◌else◌}
use Rattle.graph_paths.specs.PathMarksTable.{bits_of}
use Rattle.dead_pass_rule.specs.Cascade.{AllGo, AllStay, HaveRows, staying}
use Rattle.dead_pass_rule.specs.Cascading.{assignments_of, graph_of}
use Rattle.dead_pass_rule.specs.Walks.{turn_of}
use Rattle.dead_pass_rule.proofs.cascade.FreeGraph.settle.Given as goal

abbrev pub invariant-loop-is_less : goal.invariant-loop-is_less
invariant-loop-is_less l = record {
  rows : HaveRows (graph_of l.self).blocks l.turns;
  goes : AllGo (assignments_of l.self) (graph_of l.self) (turn_of l.turns);
  stays : l.is_less ≡ false → AllStay (assignments_of l.self) (graph_of l.self) (turn_of l.turns) (bits_of l.self.reached.now 0);
}

abbrev pub decreases-loop-is_less : goal.decreases-loop-is_less
decreases-loop-is_less l = staying l.turns + (if l.is_less then 1 else 0)
