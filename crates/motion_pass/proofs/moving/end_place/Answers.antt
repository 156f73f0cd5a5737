use Rattle.std.proofs.Common.{◌<◌, length, map, ap, ◌∙◌, arith}
use Rattle.std.proofs.lemmas.List.{length-map, take_all}
use Rattle.graph_core.specs.Graphs.{instruction_view}
use Rattle.graph_core.specs.Validity.{place_behind}
use Rattle.motion_pass.specs.Placing.{placed}
use Rattle.motion_pass.proofs.Moved.{place_next}
use Rattle.motion_pass.proofs.moving.end_place.Goals as goal

pub loop-index-preserved : goal.loop-index-preserved
loop-index-preserved c =
    let xs = c.args.block.now.instructions.items in
    let k = c.loop-index.index in
    let i = c.index-instruction.result.now in
    let inside : k < length xs = omega (arith, c.loop-index-test.true) in
    ap placed c.or-place.ensures ∙ place_next instruction_view xs k i i inside c.index-instruction.ensures c.marker.result c.loop-index.place (placed c.args.block.now.place) c.marker.ensures c.loop-index.invariant

pub returns : goal.returns
returns c =
    let xs = c.args.block.now.instructions.items in
    let long = length-map xs instruction_view in
    c.loop-index.invariant ∙ ap (λ l. place_behind l (placed c.args.block.now.place)) (take_all c.loop-index.index (map instruction_view xs) (omega (arith, long, c.loop-index-test.false)))
