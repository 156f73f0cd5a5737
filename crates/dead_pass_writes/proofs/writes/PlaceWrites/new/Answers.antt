use Rattle.std.proofs.Common.{map, ap, ◌∙◌}
use Rattle.graph_core.specs.Graphs.{binding_view, block_view, graph_view}
use Rattle.dead_pass_writes.specs.Telling.{bound_by, told, written_in}
use Rattle.dead_pass_writes.proofs.Counted.{tells_once}
use Rattle.dead_pass_writes.proofs.Keys.{told_empty}
use Rattle.dead_pass_writes.proofs.writes.PlaceWrites.new.Goals as goal

pub returns : goal.returns
returns c =
    let g = c.args.graph.now in
    tells_once (graph_view g) c.add_blocks.new.self (λ p x.
    (c.in_ok-add_blocks.ensures p x
    ∙ ap (λ bs. written_in p x (told c.add_bindings.new.self p x) 0 (map block_view bs)) c.deref-2.ensures.value
    ∙ ap (λ o. written_in p x o 0 (map block_view g.blocks.items))
    (c.in_ok-add_bindings.ensures p x ∙ ap (λ bs. bound_by g.entry.0 p x (told (record { all = c.new.result }) p x) (map binding_view bs)) c.deref.ensures.value ∙ ap (λ o. bound_by g.entry.0 p x o (map binding_view g.parameters.items)) (told_empty (record { all = c.new.result }) c.new.ensures.empty p x))))
