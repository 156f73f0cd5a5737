use Rattle.std.proofs.Common.{length, map, sym, ap, ◌∙◌, subst, arith}
use Rattle.graph_solve_problem.specs.Rounds.{directed}
use Rattle.graph_solve.specs.Rows.{table}
use Rattle.graph_solve_problem.specs.Solution.{AreWithin}
use Rattle.graph_solve.specs.Work.{AreTargets, edges_of}
use Rattle.graph_solve.proofs.Targets.{directed_within}
use Rattle.graph_solve.proofs.task.task_of.Goals as goal

pub returns : goal.returns
returns g c =
    let flow = g.P.Problem.flow c.args.problem.now in
    let graph = c.args.graph.now in
    let n = length graph.ends.items in
    record {
      few = c.requires.few;
      blocks = c.requires.blocks;
      height = c.height-height.ensures;
      height_fits = omega arith;
      unites = c.unites-unites.ensures;
      kept = c.requires.kept ∙ ap (λ m. table m flow.width flow.kept) (sym c.requires.blocks);
      written = c.requires.written ∙ ap (λ m. table m flow.width flow.written) (sym c.requires.blocks);
      within = subst (λ m. AreWithin m (edges_of flow graph)) (sym c.requires.blocks) (directed_within flow.forward n graph.edges.items c.requires.within);
      targets = subst (λ m. AreTargets (edges_of flow graph) m c.in_ok-targets.targets.items) (sym c.requires.blocks)
          (subst (λ f. AreTargets (map (directed f) graph.edges.items) n c.in_ok-targets.targets.items) c.forward.ensures c.in_ok-targets.ensures);
    }
