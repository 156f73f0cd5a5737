use Rattle.std.proofs.Common.{◌≡◌, List, length, map, sym, ap, ◌∙◌, subst}
use Rattle.std.proofs.lemmas.List.{length-map}
use Rattle.graph_core.specs.declared.block.Block as declared-block
use Rattle.graph_core.specs.Graphs.{block_view, graph_view}
use Rattle.graph_paths.specs.Flood.{AreSettled}
use Rattle.graph_paths.specs.PathMarksTable.{bits_of}
use Rattle.graph_solve_live.specs.Flowing.{living}
use Rattle.graph_solve_live.proofs.Flowing.{are_live}
use Rattle.graph_solve_live.proofs.live_names.live_rows.Goals as goal

pub returns-clause-live : goal.returns-clause-live
returns-clause-live c =
    let g = graph_view c.args.graph.now in
    let items = c.args.graph.now.blocks.items in
    let begins = bits_of c.in_ok-ends.ends in
    let ends = c.settle.new.comes in
    let starts = c.settle.new.leaves in
    let settled : AreSettled (living g.blocks g.name_count) begins (bits_of ends) (bits_of starts)
    = subst (λ (bs : List declared-block.Block). AreSettled (living (map block_view bs) g.name_count) begins (bits_of ends) (bits_of starts)) c.deref-all.ensures.value c.in_ok-settle.ensures.settled in
    let blocks = length c.deref-all.result.now in
    let count : blocks ≡ length g.blocks = ap (λ (bs : List declared-block.Block). length bs) c.deref-all.ensures.value ∙ sym (length-map items block_view) in
    are_live g begins ends starts c.in_ok-ends.ensures.clear settled blocks count (c.in_ok-settle.ensures.leaves_count ∙ c.in_ok-starts.ensures.count) (c.in_ok-settle.ensures.comes_count ∙ c.in_ok-ends.ensures.count)
    c.in_ok-settle.ensures.tables.leaves_width c.in_ok-settle.ensures.tables.comes_width
