use Rattle.std.proofs.Common.{◌≡◌, ◌<◌, ◌≤◌, List, Some, length, map, refl, ap, ◌∙◌, subst, arith}
use Rattle.std.specs.Prelude.{option_map, slice_get}
use Rattle.std.proofs.lemmas.List.{length-map}
use Rattle.std.proofs.lemmas.Option.{slice_get-map, slice_get_read}
use Rattle.graph_core.specs.declared.graph.Scalar.{Scalar}
use Rattle.graph_core.specs.Graphs.{block_view, graph_view, scalar_view}
use Rattle.pass_law.specs.Changes.{Adds}
use Rattle.dead_pass_rule.specs.Asking.{is_going}
use Rattle.dead_pass_rule.specs.Walks.{turn_of}
use Rattle.pass_law.proofs.Adding.{adds_first}
use Rattle.dead_pass_notes.specs.Points.{IsRemovedIn}
use Rattle.dead_pass_notes.specs.Writes.{IsRemovedWrite}
use Rattle.dead_pass_notes.proofs.OfBlocks.{block_of, block_step, blocks_done}
use Rattle.dead_pass_notes.proofs.graphs.removed_writes.Goals as goal

pub loop-number-init : goal.loop-number-init
loop-number-init c = λ assignments idle. adds_first (IsRemovedWrite assignments (graph_view c.args.graph.now)) block_of c.args.cases.now.items

pub loop-number-preserved : goal.loop-number-preserved
loop-number-preserved c = λ assignments idle.
    (let g = c.args.graph.now in
    let xs = g.blocks.items in
    let k = c.loop-number.number in
    let b = c.index-block.result.now in
    let goes = is_going (turn_of c.args.turns.now) in
    let inside : k < length xs = omega (arith, c.loop-number-test.true, c.requires.few) in
    let there : slice_get (map block_view xs) k ≡ Some (block_view b) = slice_get-map block_view xs k ∙ ap (option_map block_view) (slice_get_read xs (length xs) k b refl inside c.index-block.ensures) in
    block_step (graph_view g) goes idle k (block_view b) there _ _ _ (c.loop-number.invariant assignments idle)
    (subst (λ (ss : List Scalar). Adds (IsRemovedIn (map scalar_view ss) (goes k) k (block_view b)) c.loop-number.cases.items c.add_block.new.cases.items) c.deref.ensures.value c.in_ok-add_block.ensures))

pub returns : goal.returns
returns c = λ assignments idle.
    (let g = c.args.graph.now in
    let long = length-map g.blocks.items block_view in
    let whole : length (map block_view g.blocks.items) ≤ c.loop-number.number = omega (arith, long, c.loop-number-test.false, c.requires.few) in
    blocks_done (graph_view g) (is_going (turn_of c.args.turns.now)) idle c.loop-number.number _ _ whole (c.loop-number.invariant assignments idle))
