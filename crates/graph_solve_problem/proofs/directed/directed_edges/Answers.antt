use Rattle.std.proofs.Common.{◌≡◌, sym, ap, ◌∙◌, subst, map, length, arith, Vec, Global}
use Rattle.std.proofs.lemmas.List.{take_all}
use Rattle.graph_solve_problem.specs.declared.flow_graph.Edge.{Edge}
use Rattle.graph_solve_problem.specs.Solution.{control_flow}
use Rattle.graph_solve_problem.specs.Rounds.{AreDirected, directed}
use Rattle.graph_solve_problem.proofs.Directing.{directed_permuted}
use Rattle.graph_solve_problem.proofs.directed.directed_edges.Goals as goal
use Rattle.graph_solve_problem.proofs.directed.directed_edges.Goals.{then-forward+in_ok-sort, else-forward+in_ok-sort_by}

pub returns : goal.returns
returns c =
    let turned : c.loop-edge.edges.items ≡ map (directed c.args.forward) c.args.graph.now.edges.items =
    c.loop-edge.invariant ∙ ap (map (directed c.args.forward)) (take_all c.loop-edge.edge-index c.args.graph.now.edges.items (omega (arith, ap length c.deref-edge-items.ensures.value, c.loop-edge-test.false))) in
    elim c.if-forward.branch [
      | then-forward+in_ok-sort w ↦ subst (λ (v : Vec Edge Global). AreDirected (control_flow c.args.graph.now) c.args.forward v.items) (sym w.edges-is)
          (directed_permuted c.args.graph.now w.sort.new.self.items c.args.forward c.loop-edge.edges.items turned w.sort.ensures.permutation)
      | else-forward+in_ok-sort_by w ↦ subst (λ (v : Vec Edge Global). AreDirected (control_flow c.args.graph.now) c.args.forward v.items) (sym w.edges-is)
          (directed_permuted c.args.graph.now w.sort_by.new.self.items c.args.forward c.loop-edge.edges.items turned w.sort_by.ensures.permutation)
    ]
