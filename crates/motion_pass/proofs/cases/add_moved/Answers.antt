use Rattle.std.proofs.Common.{◌≡◌, ◌<◌, ◌≤◌, Some, length, map, refl, ap, ◌∙◌, arith}
use Rattle.std.specs.Prelude.{option_map, slice_get}
use Rattle.std.proofs.lemmas.List.{length-map}
use Rattle.std.proofs.lemmas.Option.{slice_get-map, slice_get_read}
use Rattle.graph_core.specs.Graphs.{block_view, graph_view}
use Rattle.motion_pass.proofs.Along.{block_step, blocks_done}
use Rattle.motion_pass.proofs.cases.add_moved.Goals as goal

pub loop-number-preserved : goal.loop-number-preserved
loop-number-preserved c =
    let g = c.args.graph.now in
    let xs = g.blocks.items in
    let k = c.loop-number.number in
    let b = c.index-block.result.now in
    let inside : k < length xs = omega (arith, c.loop-number-test.true) in
    let there : slice_get (map block_view xs) k ≡ Some (block_view b) = slice_get-map block_view xs k ∙ ap (option_map block_view) (slice_get_read xs (length xs) k b refl inside c.index-block.ensures) in
    block_step (graph_view g) k (block_view b) there _ _ _ c.loop-number.invariant c.in_ok-add_block.ensures

pub returns : goal.returns
returns c =
    (let g = c.args.graph.now in
    let long = length-map g.blocks.items block_view in
    let whole : length (map block_view g.blocks.items) ≤ c.loop-number.number = omega (arith, long, c.loop-number-test.false) in
    blocks_done (graph_view g) c.loop-number.number _ _ whole c.loop-number.invariant)
