use Rattle.std.proofs.Common.{◌≡◌, ◌∙◌, ◌<◌, ap, arith, get_or, length}
use Rattle.currency_writers.proofs.Copied.{copies_next}
use Rattle.currency_writers.proofs.copies.Copies.new.Goals as goal

pub loop-block-preserved : goal.loop-block-preserved
loop-block-preserved c =
    (let g = c.args.graph.now in
    let k = c.loop-block.block-index in
    let b = c.block-item.result in
    let lt : k < length g.blocks.items = omega arith in
    let is : b ≡ get_or g.blocks.items k b = c.block-item.is ∙ ap (λ l. get_or l k b) c.deref-block-items.ensures.value in
    let more = c.in_ok-add_block.ensures in
    record {
      graph = more.graph ∙ c.loop-block.invariant.graph;
      count = more.count ∙ c.loop-block.invariant.count;
      first = copies_next c.loop-block.copies c.add_block.new.self g k b lt is c.loop-block.invariant.first more;
    })
