use Rattle.std.proofs.Common.{sym, subst, length}
use Rattle.std.proofs.lemmas.List.{length-map}
use Rattle.graph_core.specs.Graphs.{block_view, graph_view}
use Rattle.graph_solve.specs.GraphFlow.{AreFlow, graph_flow}
use Rattle.graph_solve_problem.specs.Solution.{AreWithin, IsSolution, control_flow}
use Rattle.graph_solve.proofs.Carrying.{flow_within, graph_solution}
use Rattle.graph_solve.proofs.graph.solve_plain.Goals as goal

pub solve_flow_plain-requires-clause-within : goal.solve_flow_plain-requires-clause-within
solve_flow_plain-requires-clause-within g c =
    let graph = graph_view c.args.graph.now in
    let are : AreFlow graph (length graph.blocks) c.in_ok-flow.flow.ends.items c.in_ok-flow.flow.edges.items =
    subst (λ n. AreFlow graph n c.in_ok-flow.flow.ends.items c.in_ok-flow.flow.edges.items) (sym (length-map c.args.graph.now.blocks.items block_view)) c.in_ok-flow.ensures.are in
    subst (λ n. AreWithin n c.in_ok-flow.flow.edges.items) (sym are.each) (flow_within graph c.in_ok-flow.flow are c.requires.within)

pub returns : goal.returns
returns g c =
    let graph = graph_view c.args.graph.now in
    let flow = g.P.Problem.flow c.args.problem.now in
    let same = length-map c.args.graph.now.blocks.items block_view in
    let are : AreFlow graph (length graph.blocks) c.in_ok-flow.flow.ends.items c.in_ok-flow.flow.edges.items =
    subst (λ n. AreFlow graph n c.in_ok-flow.flow.ends.items c.in_ok-flow.flow.edges.items) (sym same) c.in_ok-flow.ensures.are in
    subst (λ n. IsSolution flow (graph_flow graph) n c.in_ok-solution.solution.starts.items c.in_ok-solution.solution.ends.items) same
    (graph_solution graph c.in_ok-flow.flow are flow c.in_ok-solution.solution.starts.items c.in_ok-solution.solution.ends.items
    (subst (λ n. IsSolution flow (control_flow c.in_ok-flow.flow) n c.in_ok-solution.solution.starts.items c.in_ok-solution.solution.ends.items) are.each c.in_ok-solution.ensures))
