-- What the solver knows of the problem and the graph.
use Rattle.std.proofs.Common.{length, refl, subst}
use Rattle.std.proofs.lemmas.List.Sorted.{IsPermutation-refl}
use Rattle.graph_solve_problem.specs.declared.flow_graph.FlowGraph.{FlowGraph}
use Rattle.graph_solve.specs.declared.task.Task.{Task}
use Rattle.graph_solve_problem.specs.Problem.{DataFlow}
use Rattle.graph_solve_problem.specs.Solution.{AreWithin, control_flow}
use Rattle.graph_solve_problem.specs.Rounds.{AreDirected}
use Rattle.graph_solve.specs.Work.{IsTask, edges_of}
use Rattle.graph_solve_problem.proofs.Directing.{directed_permuted}

pub directed_as : (flow : DataFlow) (graph : FlowGraph) → AreDirected (control_flow graph) flow.forward (edges_of flow graph)
directed_as flow graph = directed_permuted graph (edges_of flow graph) flow.forward (edges_of flow graph) refl (IsPermutation-refl (edges_of flow graph))

pub within_as : (flow : DataFlow) (graph : FlowGraph) (task : Task) → IsTask flow graph task → AreWithin (length graph.ends.items) (edges_of flow graph)
within_as flow graph task is = subst (λ n. AreWithin n (edges_of flow graph)) is.blocks is.within
