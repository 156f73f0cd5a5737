use Rattle.std.proofs.Common.{arith, get_or}
use Rattle.std.proofs.lemmas.Option.{slice_get-get_or}
use Rattle.graph_core.specs.Graphs.{graph_view}
use Rattle.copy_pass_rule.proofs.AlongBlocks.{next_apart, next_few, next_within, past_all, past_few, past_next, past_none}
use Rattle.copy_pass_rule.proofs.finding.find_along.Goals as goal

pub loop-number-init : goal.loop-number-init
loop-number-init c = past_none (graph_view c.args.graph.now) c.args.order.now c.requires.in_order c.args.found.now.items c.requires.none

pub find_in-requires : goal.find_in-requires
find_in-requires c =
    let g = graph_view c.args.graph.now in
    let order = c.args.order.now in
    let turn = c.loop-number.number-index in
    let stands = slice_get-get_or order turn 0 c.loop-number-test.true in
    let n = get_or order turn 0 in
    let found = c.loop-number.found.items in
    record {
      countable = c.requires.countable;
      numerable = c.loop-number.invariant.are.numerable;
      few = next_few g order c.requires.in_order turn n stands found c.loop-number.invariant c.requires.countable;
      new_block = next_apart g order c.requires.in_order turn n stands found c.loop-number.invariant;
      block = next_within g order c.requires.in_order turn n stands found c.loop-number.invariant;
    }

pub loop-number-preserved : goal.loop-number-preserved
loop-number-preserved c =
    let order = c.args.order.now in
    let turn = c.loop-number.number-index in
    past_next (graph_view c.args.graph.now) order c.requires.in_order turn (get_or order turn 0) (slice_get-get_or order turn 0 c.loop-number-test.true) c.loop-number.found.items c.loop-number.invariant c.find_in.new.found.items
    c.in_ok-find_in.ensures.found c.in_ok-find_in.ensures.count

pub returns : goal.returns
returns c =
    let g = graph_view c.args.graph.now in
    let order = c.args.order.now in
    let found = c.loop-number.found.items in
    record {
      copies = past_all g order c.requires.in_order c.loop-number.number-index found (omega arith) c.loop-number.invariant;
      few = past_few g order c.requires.in_order c.requires.countable c.loop-number.number-index found c.loop-number.invariant;
    }
