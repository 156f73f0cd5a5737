use Rattle.std.proofs.Common.{◌≡◌, ◌<◌, ◌≤◌, length, map, take, ap, ◌∙◌, subst, arith, rules}
use Rattle.std.proofs.lemmas.List.{length-map}
use Rattle.std.proofs.lemmas.Result.{IfOk-weaker}
use Rattle.graph_core.specs.Graphs.{block_view, end_view, instruction_view, scalar_view}
use Rattle.graph_core.specs.Uses.{reads_of, reads_of_end}
use Rattle.graph_core.specs.Validity.{place_behind}
use Rattle.pass_law.specs.Changes.{Adds, Below}
use Rattle.copy_pass.specs.Points.{IsReplacedAt, IsReplacedIn, placed}
use Rattle.copy_pass.proofs.Instructions.{in_both_there, index_of, place_next, point_step, points_done, points_first, reads_last, reads_there}
use Rattle.copy_pass.proofs.replaced_reads_blocks.add_block.Goals as goal

pub loop-index-init : goal.loop-index-init
loop-index-init c = record { stood = search rules; stands = search rules; added = points_first (map scalar_view c.args.scalars.now) c.args.number (block_view c.args.was.now) (block_view c.args.is.now) _ }

pub loop-index-preserved : goal.loop-index-preserved
loop-index-preserved c =
    let b = c.args.was.now in
    let d = c.args.is.now in
    let k = c.loop-index.index in
    let inside : k < length b.instructions.items = omega (arith, c.loop-index-test.true) in
    let within : k < length d.instructions.items = omega (arith, c.requires.alike, inside) in
    let le : k ≤ length (map instruction_view b.instructions.items) = let long = length-map b.instructions.items instruction_view in omega (arith, long, inside) in
    record {
      stood = ap placed c.or-stood.ensures
          ∙ place_next instruction_view b.instructions.items k c.index-before.result.now c.index-before.result.now inside c.index-before.ensures c.marker.result c.loop-index.stood (placed b.place) c.marker.ensures c.loop-index.invariant.stood;
      stands = ap placed c.or-stands.ensures
          ∙ place_next instruction_view d.instructions.items k c.index-after.result.now c.index-after.result.now within c.index-after.ensures c.marker-in-loop-index.result c.loop-index.stands (placed d.place) c.marker-in-loop-index.ensures
          c.loop-index.invariant.stands;
      added = point_step (map scalar_view c.args.scalars.now) c.args.number (block_view b) (block_view d) k (placed c.in_both.result) (reads_of (instruction_view c.index-before.result.now)) (reads_of (instruction_view c.index-after.result.now)) le
          (in_both_there _ _ _ _ _ c.loop-index.invariant.stood c.loop-index.invariant.stands c.in_both.ensures)
          (reads_there instruction_view b.instructions.items k c.index-before.result.now c.index-before.result.now inside c.index-before.ensures (end_view b.end))
          (reads_there instruction_view d.instructions.items k c.index-after.result.now c.index-after.result.now within c.index-after.ensures (end_view d.end)) _ _ _ c.loop-index.invariant.added
          c.in_ok-add_instruction.ensures;
    }

pub returns : goal.returns
returns c =
    let b = c.args.was.now in
    let d = c.args.is.now in
    let scalars = map scalar_view c.args.scalars.now in
    let k = c.len.result in
    let long = length-map b.instructions.items instruction_view in
    let other = length-map d.instructions.items instruction_view in
    let alike = c.requires.alike in
    let whole : k ≡ length (map instruction_view b.instructions.items) = omega (arith, long) in
    let same : c.loop-index.index ≡ k = omega (arith, c.loop-index-test.false) in
    let stood : placed c.loop-index.stood ≡ place_behind (take k (map instruction_view b.instructions.items)) (placed b.place) =
    subst (λ j. placed c.loop-index.stood ≡ place_behind (take j (map instruction_view b.instructions.items)) (placed b.place)) same c.loop-index.invariant.stood in
    let stands : placed c.loop-index.stands ≡ place_behind (take k (map instruction_view d.instructions.items)) (placed d.place) =
    subst (λ j. placed c.loop-index.stands ≡ place_behind (take j (map instruction_view d.instructions.items)) (placed d.place)) same c.loop-index.invariant.stands in
    let so_far = subst (λ j. Adds (Below (IsReplacedIn scalars c.args.number (block_view b) (block_view d)) index_of j) c.args.cases.now.items c.loop-index.cases.items) same c.loop-index.invariant.added in
    IfOk-weaker c.add_end.result (λ all. Adds (IsReplacedAt scalars (placed c.in_both-2.result) c.args.number k (reads_of_end (end_view b.end)) (reads_of_end (end_view d.end))) c.loop-index.cases.items c.add_end.new.cases.items) _
    (λ all adds.
    points_done scalars c.args.number (block_view b) (block_view d) k _ _ whole
    (point_step scalars c.args.number (block_view b) (block_view d) k (placed c.in_both-2.result) (reads_of_end (end_view b.end)) (reads_of_end (end_view d.end)) (omega (arith, whole)) (in_both_there _ _ _ _ _ stood stands c.in_both-2.ensures)
    (reads_last (map instruction_view b.instructions.items) k (end_view b.end) (omega (arith, whole))) (reads_last (map instruction_view d.instructions.items) k (end_view d.end) (omega (arith, whole, long, other, alike))) _ _ _ so_far adds)) c.add_end.ensures
