use Rattle.std.proofs.Common.{◌≡◌, ◌++◌, sym, ap, ◌∙◌, map, take}
use Rattle.std.proofs.lemmas.List.{take_all}
use Rattle.graph_core.specs.declared.name.Label.{Label}
use Rattle.graph_core.specs.Uses.{labels_in}
use Rattle.graph_solve.specs.GraphFlow.{edge_from}
use Rattle.graph_solve_problem.proofs.Lists.{map_through}
use Rattle.graph_solve.proofs.graph.push_edges.Goals as goal

pub returns : goal.returns
returns c =
    let labels = labels_in c.targets-targets.result in
    let all : take c.loop-target.target-index c.as_slice-target-items.result.now ≡ labels = take_all c.loop-target.target-index c.as_slice-target-items.result.now c.loop-target-test.false ∙ c.as_slice-target-items.ensures in
    c.loop-target.invariant ∙ ap (λ es. c.args.edges.now.items ++ es)
    (ap (map (λ (label : Label). edge_from c.args.from label.0)) all ∙ sym (map_through (edge_from c.args.from) (λ (label : Label). label.0) labels) ∙ ap (map (edge_from c.args.from)) c.targets-targets.ensures)
