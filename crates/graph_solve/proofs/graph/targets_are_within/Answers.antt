use Rattle.std.proofs.Common.{◌≡◌, sym, ap, ◌∙◌, length, map}
use Rattle.std.proofs.lemmas.List.{length-map}
use Rattle.graph_core.specs.Graphs.{block_view}
use Rattle.graph_solve.specs.GraphFlow.{lead_within}
use Rattle.graph_solve.proofs.Within.{tells_within}
use Rattle.graph_solve.proofs.graph.targets_are_within.Goals as goal

pub returns : goal.returns
returns c =
    let all = map block_view c.args.graph.now.blocks.items in
    let is : c.blocks_lead_within-within.result ≡ lead_within (length all) all =
    c.blocks_lead_within-within.ensures ∙ ap (λ bs. lead_within (length bs) (map block_view bs)) c.deref.ensures.value ∙ ap (λ n. lead_within n all) (sym (length-map c.args.graph.now.blocks.items block_view)) in
    let tells = tells_within (length all) all in
    ((λ e. tells.0 (sym is ∙ e)), (λ h. is ∙ tells.1 h))
