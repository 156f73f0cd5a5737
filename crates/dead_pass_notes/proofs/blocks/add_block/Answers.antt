use Rattle.std.proofs.Common.{◌≡◌, ◌-◌, ◌<◌, ◌≤◌, Some, length, map, refl, ap, ◌∙◌, arith}
use Rattle.std.specs.Prelude.{◌==◌, not, slice_get}
use Rattle.std.proofs.lemmas.List.{length-map}
use Rattle.std.specs.Prelude.{option_map}
use Rattle.std.proofs.lemmas.Option.{slice_get-map, slice_get_read}
use Rattle.graph_core.specs.Graphs.{block_view, instruction_view, scalar_view}
use Rattle.dead_pass_rule.specs.Asking.{is_going}
use Rattle.dead_pass_rule.specs.Walks.{turn_of}
use Rattle.dead_pass_notes.specs.Points.{placed}
use Rattle.dead_pass_notes.proofs.Instructions.{place_next, point_step, points_done}
use Rattle.dead_pass_notes.proofs.blocks.add_block.Goals as goal

pub loop-index-preserved : goal.loop-index-preserved
loop-index-preserved c =
    let b = c.args.block.now in
    let xs = b.instructions.items in
    let k = c.loop-index.index in
    let i = c.index-instruction.result.now in
    let inside : k < length xs = omega (arith, c.loop-index-test.true) in
    let long = length-map xs instruction_view in
    let count : c.len.result ≡ length (map instruction_view xs) = omega (arith, long) in
    let there : slice_get (map instruction_view xs) k ≡ Some (instruction_view i) = slice_get-map instruction_view xs k ∙ ap (option_map instruction_view) (slice_get_read xs (length xs) k i refl inside c.index-instruction.ensures) in
    record {
      place = ap placed c.or-place.ensures ∙ place_next instruction_view xs k i i inside c.index-instruction.ensures c.marker.result c.loop-index.place (placed b.place) c.marker.ensures c.loop-index.invariant.place;
      added = point_step (map scalar_view c.args.scalars.now) (is_going (turn_of c.args.turns.now) c.args.number) c.args.number (block_view b) k (instruction_view i) _ (placed c.loop-index.place) _ there
          (ap (λ t. not (t == 0)) (c.turn_at.ensures ∙ ap (λ m. turn_of c.args.turns.now c.args.number (m - 1 - k)) count)) c.loop-index.invariant.place c.target.ensures _ _ _ c.loop-index.invariant.added c.in_ok-add_write.ensures;
    }

pub returns : goal.returns
returns c =
    (let b = c.args.block.now in
    let long = length-map b.instructions.items instruction_view in
    let whole : length (map instruction_view b.instructions.items) ≤ c.loop-index.index = omega (arith, long, c.loop-index-test.false) in
    points_done (map scalar_view c.args.scalars.now) (is_going (turn_of c.args.turns.now) c.args.number) c.args.number (block_view b) c.loop-index.index _ _ whole c.loop-index.invariant.added)
