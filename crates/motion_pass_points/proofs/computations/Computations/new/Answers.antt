use Rattle.std.proofs.Common.{◌≡◌, ℕ, Bool, ◌∷◌, ◌++◌, [], ◌+◌, ◌-◌, false, length, map, take, drop, sym, ap, ◌∙◌, subst, arith}
use Rattle.std.specs.Prelude.{if◌then◌else◌, slice_index_or}
use Rattle.graph_core.specs.Graphs.{block_view}
use Rattle.motion_pass_points.specs.MotionPointsComputing.{computed_along}
use Rattle.motion_pass_points.specs.Numbers.{views_of, computed_in, AreOnce, none}
use Rattle.motion_pass_points.proofs.Few.{block_ahead, blocks_few}
use Rattle.motion_pass_points.proofs.Passing.{ArePassed, passed_block, passed_last, whole_is, none_left}
use Rattle.motion_pass_points.proofs.computations.Computations.new.Goals as goal

pub loop-ahead-preserved : goal.loop-ahead-preserved
loop-ahead-preserved c =
    (let left = c.loop-ahead.ahead.now in
    let told : ℕ → Bool = λ n. slice_index_or c.args.flags.now n false in
    let all = computed_in told 0 (map block_view c.args.blocks.now) in
    let whole = whole_is left c.block-item.result _ c.in-len1-up.len_at_least c.block-item.is in
    record {
      counted = (let more : length left ≡ length (take (length left - 1) (drop 1 left)) + 1 = ap length whole ∙ omega arith in omega (arith, more, c.loop-ahead.invariant.counted));
      numbers = c.in_ok-add_flagged.ensures.numbers;
      few =
          (let ahead = block_ahead told c.loop-ahead.number (block_view c.block-item.result) (map block_view (take (length left - 1) (drop 1 left))) (map block_view left) c.is_flagged.result c.is_flagged.ensures (ap (map block_view) whole) in
          let was = c.loop-ahead.invariant.few in
          let more = c.in_ok-add_flagged.ensures.count in
          omega (arith, ahead, was, more));
      passed = passed_block told [] (views_of c.loop-ahead.made) (views_of c.add_flagged.new.self) all c.loop-ahead.number (block_view c.block-item.result) (map block_view (take (length left - 1) (drop 1 left)))
          (subst (λ xs. ArePassed [] (views_of c.loop-ahead.made) all (computed_in told c.loop-ahead.number (map block_view xs))) whole c.loop-ahead.invariant.passed)
          (λ list once. subst (λ (flag : Bool). AreOnce (list ++ (if flag then computed_along (block_view c.block-item.result).instructions else [])) (views_of c.add_flagged.new.self)) c.is_flagged.ensures (c.in_ok-add_flagged.ensures.once list once));
    })

pub add_flagged-requires-clause-few : goal.add_flagged-requires-clause-few
add_flagged-requires-clause-few c =
    let left = c.loop-ahead.ahead.now in
    let told : ℕ → Bool = λ n. slice_index_or c.args.flags.now n false in
    let whole = whole_is left c.block-item.result _ c.in-len1-up.len_at_least c.block-item.is in
    let ahead = block_ahead told c.loop-ahead.number (block_view c.block-item.result) (map block_view (take (length left - 1) (drop 1 left))) (map block_view left) c.is_flagged.result c.is_flagged.ensures (ap (map block_view) whole) in
    let was = c.loop-ahead.invariant.few in
    let most = blocks_few told 0 (map block_view c.args.blocks.now) in
    let few = c.requires in
    omega (arith, ahead, was, most, few)

pub returns-clause-once : goal.returns-clause-once
returns-clause-once c =
    (let told : ℕ → Bool = λ n. slice_index_or c.args.flags.now n false in
    let all = computed_in told 0 (map block_view c.args.blocks.now) in
    passed_last [] (views_of c.loop-ahead.made) all (subst (λ xs. ArePassed [] (views_of c.loop-ahead.made) all (computed_in told c.loop-ahead.number (map block_view xs))) (none_left c.loop-ahead.ahead.now c.in_default.len_below) c.loop-ahead.invariant.passed) [] none)
