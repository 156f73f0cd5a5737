use Rattle.std.proofs.Common.{◌≡◌, ◌<◌, Some, length, map, refl, ap, ◌∙◌, arith}
use Rattle.std.specs.Prelude.{option_map, slice_get}
use Rattle.std.specs.BTreeMap.{get}
use Rattle.std.proofs.lemmas.Option.{slice_get-map, slice_get_read}
use Rattle.graph_core.specs.Graphs.{instruction_view}
use Rattle.motion_pass_points.specs.MotionPointsComputing.{told_along, told_done, told_written}
use Rattle.motion_pass_points.specs.Numbers.{key_cmp, views_of}
use Rattle.motion_pass_points.specs.Columns.{is_number, told_in}
use Rattle.motion_pass_points.proofs.Telling.{done_there, spoiled_there, told_all, told_more, told_nothing}
use Rattle.motion_pass_points.proofs.columns.Column.local_of.Goals as goal

pub loop-index-init : goal.loop-index-init
loop-index-init c = λ col num along n e of at. ap (told_along e (map instruction_view c.args.block.now.instructions.items)) (told_nothing n)

pub loop-index-preserved : goal.loop-index-preserved
loop-index-preserved c = λ col num along n e of at.
    (let xs = c.args.block.now.instructions.items in
    let k = c.loop-index.index in
    let i = c.index-instruction.result.now in
    let inside : k < length xs = omega (arith, c.loop-index-test.true) in
    let there : slice_get (map instruction_view xs) k ≡ Some (instruction_view i) = slice_get-map instruction_view xs k ∙ ap (option_map instruction_view) (slice_get_read xs (length xs) k i refl inside c.index-instruction.ensures) in
    let all = views_of c.args.all.now in
    let done = c.bit_of-done.ensures n of ∙ ap (is_number n) c.number_of-number.ensures ∙ done_there all n e at (get key_cmp c.args.all.now.numbers) num (instruction_view i) _ (along k (instruction_view i) there) in
    let written = c.spoiled_by-written.ensures n ∙ spoiled_there all n e at c.args.self.now.spoiled.items (instruction_view i) (λ x. col x n of) _ c.target-target.ensures in
    told_more instruction_view e xs k i inside c.index-instruction.ensures (told_in c.loop-index.local n) _ _ (c.behind-local.ensures n ∙ (λ j. told_written (written j) (told_done (done j) (told_in c.loop-index.local n)))) (c.loop-index.invariant col num along n e of at))

pub returns : goal.returns
returns c = λ col num along n e of at. told_all instruction_view e c.args.block.now.instructions.items c.loop-index.index (told_in c.loop-index.local n) _ (omega (arith, c.loop-index-test.false)) (c.loop-index.invariant col num along n e of at)
