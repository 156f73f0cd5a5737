use Rattle.std.proofs.Common.{◌≡◌, ◌<◌, ◌≤◌, true, false, length}
use Rattle.std.specs.List.{AllWithin}
use Rattle.graph_solve_problem.specs.Rounds.{AreCounted, Follows, IsSettled, falls_left}
use Rattle.graph_solve_problem.proofs.rounds.round.Given as goal

abbrev pub invariant-loop-edge : goal.invariant-loop-edge
invariant-loop-edge g l = record {
  counted : AreCounted (g.P.Problem.flow l.problem) l.values.items l.counts.items;
  follows : Follows (g.P.Problem.flow l.problem) l.edges l.fn.values.items l.fn.counts.items l.values.items l.counts.items;
  size : length l.values.items ≡ length l.fn.values.items;
  settled : l.changed ≡ false → AllWithin (IsSettled (g.P.Problem.flow l.problem) l.values.items) l.edges 0 l.edge-index;
  not_more : falls_left l.height l.counts.items ≤ falls_left l.height l.fn.counts.items;
  fell : l.changed ≡ true → falls_left l.height l.counts.items < falls_left l.height l.fn.counts.items;
}
