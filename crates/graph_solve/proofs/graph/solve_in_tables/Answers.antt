use Rattle.std.proofs.Common.{sym, subst, length, ◌∙◌}
use Rattle.std.proofs.lemmas.List.{length-map}
use Rattle.graph_core.specs.Graphs.{block_view, graph_view}
use Rattle.graph_solve.specs.GraphFlow.{AreFlow, graph_flow}
use Rattle.graph_solve_problem.specs.Solution.{AreWithin, IsSolution, control_flow}
use Rattle.graph_solve.specs.Solved.{starts_of, ends_of}
use Rattle.graph_solve.proofs.Carrying.{flow_within, graph_solution}
use Rattle.graph_solve.proofs.graph.solve_in_tables.Goals as goal

pub solve_tables-requires-clause-within : goal.solve_tables-requires-clause-within
solve_tables-requires-clause-within g c =
    let graph = graph_view c.args.graph.now in
    let flow = c.args.flow.now in
    let are : AreFlow graph (length graph.blocks) flow.ends.items flow.edges.items =
    subst (λ n. AreFlow graph n flow.ends.items flow.edges.items) (sym (length-map c.args.graph.now.blocks.items block_view)) c.requires.flow in
    subst (λ n. AreWithin n flow.edges.items) (sym are.each) (flow_within graph flow are c.requires.within)

pub returns-clause-solution : goal.returns-clause-solution
returns-clause-solution g c =
    let graph = graph_view c.args.graph.now in
    let flow = c.args.flow.now in
    let problem = g.P.Problem.flow c.args.problem.now in
    let same = length-map c.args.graph.now.blocks.items block_view in
    let solved = c.in_ok-solved.solved in
    let are : AreFlow graph (length graph.blocks) flow.ends.items flow.edges.items =
    subst (λ n. AreFlow graph n flow.ends.items flow.edges.items) (sym same) c.requires.flow in
    let by_rows = subst (λ n. IsSolution problem (control_flow flow) n (starts_of solved) (ends_of solved)) are.each c.in_ok-solved.ensures.solution in
    subst (λ n. IsSolution problem (graph_flow graph) n (starts_of solved) (ends_of solved)) same
    (graph_solution graph flow are problem (starts_of solved) (ends_of solved) by_rows)

pub returns-clause-blocks : goal.returns-clause-blocks
returns-clause-blocks g c = c.in_ok-solved.ensures.blocks ∙ c.requires.flow.each
