use Rattle.std.proofs.Common.{◌≡◌, ◌+◌, ◌∙◌, length, map, ap, arith, vec_len}
use Rattle.graph_core.specs.Graphs.{block_view}
use Rattle.image_build_tables.specs.Variables.{bounded_count}
use Rattle.image_build_tables.proofs.Ahead.{whole}
use Rattle.image_build_tables.specs.Rows.{firsts_from}
use Rattle.image_build_tables.proofs.Counting.{before_step, block_length, counted_sum}
use Rattle.image_build_tables.proofs.rows.instructions_before.Goals as goal

pub loop-left-preserved : goal.loop-left-preserved
loop-left-preserved c =
    let l = c.loop-left in
    let b = c.block-item.result in
    let sum = l.invariant.0 in
    let whole_left = whole l.left.now b c.in-len1-up.len_at_least c.block-item.is in
    let m = length (block_view b).instructions in
    let all : vec_len b.instructions ≡ length b.instructions.items = omega arith in (
      sum + m,
      counted_sum c.saturating_add-count.result sum c.number_of.result l.count m c.saturating_add-count.ensures l.invariant.1 (c.number_of.ensures ∙ ap bounded_count (c.len.ensures ∙ all ∙ block_length b)),
      before_step l.left.now b l.counts.items c.push.new.self.items (firsts_from 0 (map block_view c.args.blocks.now)) l.count sum whole_left c.in_ok-push.ensures.items l.invariant.1 l.invariant.2,
    )
