use Rattle.std.proofs.Common.{◌≡◌, ◌+◌, length, arith}
use Rattle.graph_core.specs.Graphs.{block_view}
use Rattle.dead_pass_writes.proofs.Steps.{blocks_done, blocks_step, rest_count}
use Rattle.dead_pass_writes.proofs.writes.PlaceWrites.add_blocks.Goals as goal

pub loop-ahead-preserved : goal.loop-ahead-preserved
loop-ahead-preserved c =
    let counted : c.loop-ahead.number + length c.loop-ahead.ahead.now ≡ length c.args.blocks.now = c.loop-ahead.invariant.counted in
    let some = c.in-len1-up.len_at_least in
    let rest = rest_count c.loop-ahead.ahead.now some in
    record {
      counted = omega (arith, counted, rest);
      same = λ p x. blocks_step block_view _ c.block-item.result p x c.loop-ahead.number _ _ _ some c.block-item.is (c.in_ok-add_block.ensures p x) (c.loop-ahead.invariant.same p x);
    }

pub returns : goal.returns
returns c = λ p x. blocks_done block_view _ p x c.loop-ahead.number _ _ c.in_default.len_below (c.loop-ahead.invariant.same p x)
