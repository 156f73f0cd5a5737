use Rattle.std.proofs.Common.{Some, ◌∙◌, ◌<◌, ap, arith, length, sym}
use Rattle.std.proofs.lemmas.Option.{slice_get-get_or}
use Rattle.currency_writers.proofs.Written.{block_still, blocks_more, blocks_on, more_on}
use Rattle.currency_writers.proofs.Ordering.{lists_on}
use Rattle.currency_writers.proofs.writers.Writers.add_blocks.Goals as goal

pub loop-n-preserved : goal.loop-n-preserved
loop-n-preserved c =
    (let old = c.args.self.now in
    let mid = c.loop-n.self in
    let new = c.add_block.new.self in
    let n = c.loop-n.n in
    let b = c.index.result.now in
    let known = c.loop-n.invariant in
    let said = c.in_ok-add_block.ensures in
    let lt : n < length old.graph.now.blocks.items = omega arith in
    let more = more_on old mid new known.more said.more in
    record {
      more = more;
      sound = said.sound;
      indexed = said.indexed;
      lists = lists_on mid new said.more known.lists;
      next = said.next;
      all = blocks_more new n b (block_still old new n b more (slice_get-get_or old.graph.now.blocks.items n b lt ∙ ap Some (sym c.index.ensures))) (blocks_on mid new n said.more known.all) said.all;
    })
