use Rattle.std.proofs.Common.{◌≡◌, cond, length, sym, ◌∙◌, subst, arith}
use Rattle.graph_solve_problem.specs.Solution.{IsSolution, control_flow}
use Rattle.graph_solve.specs.Rows.{sets_at}
use Rattle.graph_solve.specs.Work.{edges_of}
use Rattle.graph_solve.proofs.Tasks.{directed_as, within_as}
use Rattle.graph_solve.proofs.Waiting.{rows_solve}
use Rattle.graph_solve.proofs.solving.solve_tables.Goals as goal

pub invariant_of-result : goal.invariant_of-result
invariant_of-result g c =
    let blocks : c.len-blocks.result ≡ length c.args.graph.now.ends.items = omega arith in
    let state = c.in_ok-settle.ensures.state in
    record {
      each = omega (arith, state.rows, blocks);
      few = omega (arith, c.requires.few);
      wide = λ row lt. state.widths row (omega (arith, lt, state.rows)) ∙ sym c.width.ensures;
    }

pub returns-clause-solution : goal.returns-clause-solution
returns-clause-solution g c =
    let flow = g.P.Problem.flow c.args.problem.now in
    let graph = c.args.graph.now in
    let n = length graph.ends.items in
    let work = c.settle.new.work in
    let blocks : n ≡ c.len-blocks.result = omega arith in
    subst (λ m. IsSolution flow (control_flow graph) n (cond c.forward.result (sets_at work.values 0 m) (sets_at work.values m m)) (cond c.forward.result (sets_at work.values m m) (sets_at work.values 0 m))) blocks
    (rows_solve flow (control_flow graph) (edges_of flow graph) n (directed_as flow graph) (within_as flow graph c.in_ok-task.task c.in_ok-task.ensures) work.values work.queue.items work.waiting.items work.counts.items 0 c.in_ok-settle.ensures.state c.in_ok-settle.ensures.done
    c.forward.result (sym c.forward.ensures))
