use Rattle.std.proofs.Common.{◌≡◌, ◌↔◌, Bool, true, sym, ap, ◌∙◌, subst}
use Rattle.std.specs.List.{list_any}
use Rattle.graph_core.specs.Graphs.{block_view, graph_view}
use Rattle.graph_core.specs.Uses.{labels_in}
use Rattle.base_laws.proofs.Lists.{there}
use Rattle.motion_pass.specs.Counts.{LeadsTo, is_label}
use Rattle.motion_pass.proofs.Entering.{leads_by}
use Rattle.motion_pass.proofs.times.leads_to.Goals as goal

pub returns : goal.returns
returns c =
    let g = c.args.graph.now in
    let b = c.in-Some.block.now in
    subst (λ (w : Bool). (w ≡ true) ↔ LeadsTo (graph_view g).blocks c.args.from c.args.to) (sym (c.is_among.ensures ∙ ap (list_any (is_label c.args.to)) c.as_slice.ensures))
    (leads_by (graph_view g).blocks c.args.from c.args.to (block_view b) (labels_in c.targets.result)
    (there block_view c.deref.result.now g.blocks.items c.args.from b c.deref.ensures.value c.in-Some.ensures.lookup.3.0 c.in-Some.ensures.lookup.1) c.targets.ensures)
