use Rattle.std.proofs.Common.{◌≡◌, ℕ, ◌+◌, ◌≤◌, drop}
use Rattle.graph_solve.specs.Work.{IsWork, IsMadeAt, to_come}
use Rattle.graph_solve.proofs.work.visit.Given as goal

abbrev pub invariant-loop-to : goal.invariant-loop-to
invariant-loop-to g l = record {
  state : IsWork (g.P.Problem.flow l.problem) l.graph l.work l.block (drop l.to-index l.to-items);
  made : IsMadeAt (g.P.Problem.flow l.problem) l.graph l.work l.block;
  to_come : (weight : ℕ → ℕ) → to_come weight l.task.height l.work ≤ to_come weight l.task.height l.fn.work;
  steps : l.steps ≡ l.fn.steps + l.to-index;
}
