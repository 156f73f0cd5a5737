use Rattle.std.proofs.Common.{◌≡◌, ◌+◌, ◌<◌, ◌++◌, [], ◌∷◌, length, map, take, get_or, sym, ap, ◌∙◌, subst, arith}
use Rattle.std.proofs.Math.ListN.{set}
use Rattle.graph_solve_problem.specs.declared.flow_graph.Edge.{Edge}
use Rattle.graph_solve_problem.specs.Rounds.{directed}
use Rattle.graph_solve.specs.Work.{AreTargets}
use Rattle.graph_solve.proofs.Targets.{targets_more, directed_more, directed_ends}
use Rattle.graph_solve.proofs.task.targets_of.Goals as goal

pub loop-edge-preserved : goal.loop-edge-preserved
loop-edge-preserved c =
    let none : Edge = record { from = 0; to = 0 } in
    let edges = c.args.graph.now.edges.items in
    let i = c.loop-edge.edge-index in
    let lt : i < length edges = omega (arith, ap length c.deref-edge-items.ensures.value, c.loop-edge-test.true) in
    let edge = c.directed_edge-edge.result in
    let is : edge ≡ directed c.args.forward (get_or edges i none) = c.directed_edge-edge.ensures ∙ ap (λ xs. directed c.args.forward (get_or xs i none)) c.deref-edge-items.ensures.value in
    let within : edge.from < length c.args.graph.now.ends.items = subst (λ (e : Edge). e.from < length c.args.graph.now.ends.items) (sym is) (directed_ends c.args.forward (length c.args.graph.now.ends.items) edges i none c.requires lt).0 in
    let more : map (directed c.args.forward) (take i edges) ++ edge ∷ [] ≡ map (directed c.args.forward) (take (i + 1) edges) =
    ap (λ (e : Edge). map (directed c.args.forward) (take i edges) ++ e ∷ []) is ∙ sym (directed_more c.args.forward edges i none lt) in
    subst (λ es. AreTargets es (length c.args.graph.now.ends.items) (set c.loop-edge.targets.items edge.from c.push.new.self)) more
    (targets_more (map (directed c.args.forward) (take i edges)) (length c.args.graph.now.ends.items) c.loop-edge.targets.items edge c.index_mut.result.now c.push.new.self c.loop-edge.invariant within c.index_mut.ensures.value c.in_ok-push.ensures.items)
