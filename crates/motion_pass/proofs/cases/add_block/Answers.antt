use Rattle.std.proofs.Common.{◌≡◌, ◌<◌, ◌≤◌, List, Some, length, map, refl, ap, ◌∙◌, subst, arith}
use Rattle.std.specs.Prelude.{option_map, slice_get}
use Rattle.std.proofs.lemmas.List.{length-map}
use Rattle.std.proofs.lemmas.Option.{slice_get-map, slice_get_read}
use Rattle.graph_core.specs.declared.graph.Scalar as declared-scalar
use Rattle.graph_core.specs.declared.name.Name as declared-name
use Rattle.graph_core.specs.Graphs.{block_view, graph_view, instruction_view, scalar_view}
use Rattle.pass_law.specs.Changes.{Adds}
use Rattle.motion_pass.specs.Cases.{IsReadingAt}
use Rattle.motion_pass.specs.Placing.{placed}
use Rattle.motion_pass.proofs.Along.{point_step, points_done}
use Rattle.motion_pass.proofs.Moved.{place_next}
use Rattle.motion_pass.proofs.cases.add_block.Goals as goal

pub loop-index-preserved : goal.loop-index-preserved
loop-index-preserved c =
    let g = graph_view c.args.graph.now in
    let b = c.args.block.now in
    let xs = b.instructions.items in
    let k = c.loop-index.index in
    let i = c.index-instruction.result.now in
    let inside : k < length xs = omega (arith, c.loop-index-test.true) in
    let long = length-map xs instruction_view in
    let there : slice_get (map instruction_view xs) k ≡ Some (instruction_view i) = slice_get-map instruction_view xs k ∙ ap (option_map instruction_view) (slice_get_read xs (length xs) k i refl inside c.index-instruction.ensures) in
    record {
      place = ap placed c.or-place.ensures ∙ place_next instruction_view xs k i i inside c.index-instruction.ensures c.marker.result c.loop-index.place (placed b.place) c.marker.ensures c.loop-index.invariant.place;
      added = point_step g.scalars g.blocks c.args.number (block_view b) k (instruction_view i) _ (placed c.loop-index.place) _ there
          (c.reads_at.ensures g c.requires.are (block_view b) c.requires.at (omega (arith, inside, long))) c.loop-index.invariant.place c.target.ensures _ _ _ c.loop-index.invariant.added
          (subst (λ (ss : List declared-scalar.Scalar). Adds (IsReadingAt (map scalar_view ss) c.reads_at.result (placed c.loop-index.place) c.args.number k (option_map (λ (n : declared-name.Name). n.0) c.target.result)) c.loop-index.cases.items c.add_case.new.cases.items) c.deref.ensures.value
          c.in_ok-add_case.ensures);
    }

pub returns : goal.returns
returns c =
    (let g = graph_view c.args.graph.now in
    let b = c.args.block.now in
    let long = length-map b.instructions.items instruction_view in
    let whole : length (map instruction_view b.instructions.items) ≤ c.loop-index.index = omega (arith, long, c.loop-index-test.false) in
    points_done g.scalars g.blocks c.args.number (block_view b) c.loop-index.index _ _ whole c.loop-index.invariant.added)
