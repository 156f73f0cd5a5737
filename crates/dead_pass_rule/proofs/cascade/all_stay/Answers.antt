use Rattle.std.proofs.Common.{◌≡◌, ◌+◌, ◌<◌, ◌∷◌, [], ℕ, Option, List, length, map, sym, ap, ◌∙◌, subst, arith, replicate}
use Rattle.std.specs.Prelude.{Some, slice_get, slice_index_or}
use Rattle.std.specs.declared.vec.Vec.{Vec}
use Rattle.std.specs.declared.alloc.Global.{Global}
use Rattle.std.proofs.lemmas.List.{length-append, length-map, length-replicate}
use Rattle.std.proofs.lemmas.Option.{none-some, slice_get_within}
use Rattle.graph_core.specs.Graphs.{Block, block_view, instruction_view}
use Rattle.dead_pass_rule.specs.Cascade.{HasRow}
use Rattle.dead_pass_rule.proofs.BlockRows.{each_more, rows_more, zeros}
use Rattle.dead_pass_rule.proofs.Turning.{none_goes}
use Rattle.dead_pass_rule.proofs.cascade.all_stay.Goals as goal

pub loop-block-init : goal.loop-block-init
loop-block-init c = record {
  count = ap (λ (l : List (Vec ℕ Global)). length l) c.new-turns.ensures.items;
  rows = λ n b lt at. absurd (omega (arith, lt));
  zero = λ n row at left. absurd (none-some row (sym (ap (λ l. slice_get l n) c.new-turns.ensures.items) ∙ at));
}

pub loop-block-preserved : goal.loop-block-preserved
loop-block-preserved c =
    let turns = c.loop-block.turns.items in
    let k = c.loop-block.block-index in
    let b = c.block-item.result in
    let row = c.in_ok-vec.field-0 in
    let grown = c.in_ok-push.ensures.items in
    let filled : row.items ≡ replicate {A = ℕ} c.len.result 0 = c.in_ok-vec.ensures.items_if_clones_equal (λ y e. e) in
    let size = ap (λ (l : List ℕ). length l) filled in
    let long = length-replicate {A = ℕ} c.len.result 0 in
    let view = length-map b.instructions.items instruction_view in
    let held = b.instructions.ok.0 in
    let here : HasRow (Some row) (block_view b) = omega (arith, size, long, view, held, c.len.ensures) in
    record {
      count = (let now = ap (λ (l : List (Vec ℕ Global)). length l) grown in let was = c.loop-block.invariant.count in let sum = length-append turns (row ∷ []) in omega (arith, now, was, sum));
      rows = rows_more block_view HasRow c.args.blocks.now turns _ k b row c.loop-block.invariant.count grown c.loop-block-test.true c.block-item.is here c.loop-block.invariant.rows;
      zero = each_more (λ (r : Vec ℕ Global). (left : ℕ) → slice_index_or r.items left 0 ≡ 0) turns _ row grown (λ left. ap (λ l. slice_index_or l left 0) filled ∙ zeros c.len.result left) c.loop-block.invariant.zero;
    }

pub returns-clause-rows : goal.returns-clause-rows
returns-clause-rows c = λ n b at. c.loop-block.invariant.rows n b (let lt = slice_get_within (map block_view c.args.blocks.now) n b at in let size = length-map c.args.blocks.now block_view in omega (arith, lt, size, c.loop-block-test.false)) at

pub returns-clause-stay : goal.returns-clause-stay
returns-clause-stay c = none_goes c.loop-block.turns.items (λ n row left at. c.loop-block.invariant.zero n row at left)
