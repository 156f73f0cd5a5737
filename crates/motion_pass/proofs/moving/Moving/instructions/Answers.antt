use Rattle.std.proofs.Common.{◌≡◌, ◌<◌, List, Some, length, map, refl, sym, ap, ◌∙◌, subst, arith}
use Rattle.std.specs.Prelude.{option_map, slice_get}
use Rattle.std.proofs.lemmas.List.{length-map}
use Rattle.std.proofs.lemmas.Option.{slice_get-map, slice_get_read}
use Rattle.graph_core.specs.declared.instruction.Instr.{Instr}
use Rattle.graph_core.specs.Graphs.{block_view, end_view, instruction_view}
use Rattle.motion_pass.specs.Placing.{blocks_of, first_of, treated_in}
use Rattle.motion_pass.proofs.Moved.{IsBehind, behind_none, behind_one, behind_all}
use Rattle.motion_pass.proofs.moving.Moving.instructions.Goals as goal

pub loop-index-init : goal.loop-index-init
loop-index-init c =
    let m = c.args.self.now in
    let b = c.args.block.now in
    let all = map instruction_view b.instructions.items in
    subst (λ (xs : List Instr). IsBehind (blocks_of m) (first_of m) (treated_in m) c.args.number (end_view b.end) all 0 (map instruction_view xs)) (sym c.new-made.ensures.items) (behind_none (blocks_of m) (first_of m) (treated_in m) c.args.number (end_view b.end) all)

pub loop-index-preserved : goal.loop-index-preserved
loop-index-preserved c =
    let m = c.args.self.now in
    let b = c.args.block.now in
    let xs = b.instructions.items in
    let k = c.loop-index.index in
    let i = c.index-instruction.result.now in
    let inside : k < length xs = omega (arith, c.loop-index-test.true) in
    let there : slice_get (map instruction_view xs) k ≡ Some (instruction_view i) = slice_get-map instruction_view xs k ∙ ap (option_map instruction_view) (slice_get_read xs (length xs) k i refl inside c.index-instruction.ensures) in
    let pushed = c.in_ok-push_instruction.ensures (block_view b) c.requires.at there in
    behind_one (blocks_of m) (first_of m) (treated_in m) c.args.number (end_view b.end) (map instruction_view xs) k (instruction_view i) pushed.j pushed.done _ _ there pushed.are pushed.becomes pushed.behind c.loop-index.invariant

pub returns : goal.returns
returns c =
    let m = c.args.self.now in
    let b = c.args.block.now in
    let xs = b.instructions.items in
    let long = length-map xs instruction_view in
    behind_all (blocks_of m) (first_of m) (treated_in m) c.args.number (end_view b.end) (map instruction_view xs) c.loop-index.index _ (omega (arith, long, c.loop-index-test.false)) c.loop-index.invariant
