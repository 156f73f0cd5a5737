use Rattle.std.proofs.Common.{[]}
use Rattle.graph_solve.specs.Work.{AreTargets}
use Rattle.graph_solve.proofs.task.no_targets.Given as goal

abbrev pub invariant-loop-block : goal.invariant-loop-block
invariant-loop-block l = AreTargets [] l._block l.targets.items
