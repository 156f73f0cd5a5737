use Rattle.std.proofs.Common.{◌≡◌, ◌<◌, ◌/◌, ℕ, List, Option, true, Some, length, map, refl, sym, ap, ◌∙◌, subst, arith}
use Rattle.std.specs.Prelude.{option_map, slice_get}
use Rattle.std.proofs.lemmas.List.{length-map}
use Rattle.std.proofs.lemmas.Option.{same_Some, slice_get-map, slice_get_read, slice_get_within}
use Rattle.graph_core.specs.Graphs.{Block, block_view}
use Rattle.graph_core.specs.Computations.{Computation}
use Rattle.motion_pass_points.specs.MotionPointsComputing.{nothing, told_along}
use Rattle.motion_pass_points.specs.Columns.{AreNumbersAlong, IsColumn, told_in}
use Rattle.motion_pass_problems.specs.Problems.{no_local}
use Rattle.motion_pass_problems.proofs.Pushed.{count_on, each_on}
use Rattle.motion_pass_placement.specs.Columns.{all_in, blocks_in, reached_in, row_of}
use Rattle.motion_pass_placement.proofs.columns.Placing.locals.Goals as goal

pub loop-number-preserved : goal.loop-number-preserved
loop-number-preserved c =
    let s = c.args.self.now in
    let column = c.args.column.now in
    let xs = s.graph.now.blocks.items in
    let number = c.loop-number.number in
    let block = c.index-block.result.now in
    let inside : number < length xs = omega (arith, c.loop-number-test.true, c.len-number-end.ensures) in
    let there : slice_get (map block_view xs) number ≡ Some (block_view block) = slice_get-map block_view xs number ∙ ap (option_map block_view) (slice_get_read xs (length xs) number block refl inside c.index-block.ensures) in
    let out = c.loop-number.locals.items in
    record {
      count = count_on out _ c.local_of-local.result number c.in_ok-push.ensures.items c.loop-number.invariant.count;
      each = each_on
          (λ n local. IsColumn (all_in s) column.index column.spoiled.items → (k : ℕ) (e : Computation) → k / 64 ≡ column.index → slice_get (all_in s) k ≡ Some e → (b : Block) → slice_get (blocks_in s) n ≡ Some b → reached_in s n ≡ true
          → told_in local k ≡ told_along e b.instructions nothing) out _ c.local_of-local.result no_local number c.in_ok-push.ensures.items c.loop-number.invariant.count
          (λ col k e of at b got comes.
          (let one : block_view block ≡ b = same_Some (block_view block) b (sym there ∙ got) in
          let along : AreNumbersAlong (all_in s) (block_view block).instructions c.row_at-numbers.result.now
          = subst (λ (ns : List (Option ℕ)). AreNumbersAlong (all_in s) (block_view block).instructions ns) (sym c.row_at-numbers.ensures) (subst (λ (d : Block). AreNumbersAlong (all_in s) d.instructions (row_of s.numbers.now number)) (sym one) (c.requires.rows.along number b got comes)) in
          c.local_of-local.ensures col c.requires.known along k e of at ∙ ap (λ (d : Block). told_along e d.instructions nothing) one)) c.loop-number.invariant.each;
    }

pub returns : goal.returns
returns c = λ col k e of at n b got comes.
    (let inside = slice_get_within (blocks_in c.args.self.now) n b got in
    let size = length-map c.args.self.now.graph.now.blocks.items block_view in
    c.loop-number.invariant.each n (omega (arith, inside, size, c.loop-number-test.false, c.len-number-end.ensures)) col k e of at b got comes)
