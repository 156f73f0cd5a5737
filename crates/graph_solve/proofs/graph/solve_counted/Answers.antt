use Rattle.std.proofs.Common.{sym, subst, length}
use Rattle.graph_core.specs.Graphs.{graph_view}
use Rattle.graph_solve.specs.GraphFlow.{graph_flow}
use Rattle.graph_solve_problem.specs.Solution.{IsSolution}
use Rattle.graph_solve.specs.Solved.{starts_of}
use Rattle.graph_solve.proofs.graph.solve_counted.Goals as goal

pub returns-clause-solution : goal.returns-clause-solution
returns-clause-solution g c =
    let control = graph_flow (graph_view c.args.graph.now) in
    let flow = g.P.Problem.flow c.args.problem.now in
    let n = length c.args.graph.now.blocks.items in
    let solved = c.in_ok-solved.solved in
    let solution = c.in_ok-solution.solution in
    subst (λ ss. IsSolution flow control n ss solution.ends.items) (sym c.in_ok-solution.ensures.starts)
    (subst (λ es. IsSolution flow control n (starts_of solved) es) (sym c.in_ok-solution.ensures.ends) c.in_ok-solved.ensures.solution)
