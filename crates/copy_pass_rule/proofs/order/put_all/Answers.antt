use Rattle.std.proofs.Common.{◌≡◌, ℕ, ◌<◌, Bool, List, Some, length, map, get_or, refl, sym, subst, arith}
use Rattle.std.specs.Prelude.{slice_get}
use Rattle.std.proofs.lemmas.List.{length-map}
use Rattle.std.proofs.lemmas.Option.{slice_get_read, slice_get_within}
use Rattle.graph_core.specs.declared.block.Block as declared-block
use Rattle.graph_core.specs.Graphs.{block_view, end_view}
use Rattle.graph_core.specs.Uses.{targets_of}
use Rattle.graph_paths.proofs.Leading.{block_there}
use Rattle.copy_pass_rule.specs.Order.{AreAdded}
use Rattle.copy_pass_rule.proofs.Ordering.{AreOrdered, IsClosedTo, IsOneMore, in_order, one_more}
use Rattle.copy_pass_rule.proofs.order.put_all.Goals as goal

stands_within : (blocks : List declared-block.Block) (order : List ℕ) (has : List Bool) (turn number : ℕ) → AreOrdered (map block_view blocks) order has → turn < length order → number ≡ get_or order turn number → number < length blocks
stands_within blocks order has turn number are lt is =
    let inside = slice_get_within has number _ (are.here turn number (slice_get_read order (length order) turn number refl lt is)) in
    let many = are.count in
    let all = length-map blocks block_view in
    omega (arith, inside, many, all)

put_next : (blocks : List declared-block.Block) (order new : List ℕ) (has new_has : List Bool) (turn number : ℕ) (b : declared-block.Block) → AreOrdered (map block_view blocks) order has → IsClosedTo (map block_view blocks) turn order has → turn < length order
    → number ≡ get_or order turn number → b ≡ get_or blocks number b → AreAdded (targets_of (end_view (get_or blocks number b).end)) order has new new_has → IsOneMore (map block_view blocks) turn order new has new_has
put_next blocks order new has new_has turn number b are closed lt is read added =
    one_more (map block_view blocks) turn number (block_view b) are closed lt (slice_get_read order (length order) turn number refl lt is) (block_there block_view blocks number b (stands_within blocks order has turn number are lt is) read)
    (subst (λ (e : declared-block.Block). AreAdded (targets_of (end_view e.end)) order has new new_has) (sym read) added)

pub bounds-blocks-number : goal.bounds-blocks-number
bounds-blocks-number c = stands_within c.args.blocks.now c.loop-turn.order.items c.loop-turn.has c.loop-turn.turn c.index-number.result.now c.loop-turn.invariant.are (omega arith) c.index-number.ensures

pub loop-turn-smaller : goal.loop-turn-smaller
loop-turn-smaller c =
    (put_next c.args.blocks.now c.loop-turn.order.items c.add_targets.new.order.items c.loop-turn.has c.add_targets.new.has c.loop-turn.turn c.index-number.result.now c.index-blocks-number.result c.loop-turn.invariant.are c.loop-turn.invariant.closed (omega arith)
    c.index-number.ensures c.index-blocks-number.is c.in_ok-add_targets.ensures).fewer

pub loop-turn-preserved : goal.loop-turn-preserved
loop-turn-preserved c =
    let next = put_next c.args.blocks.now c.loop-turn.order.items c.add_targets.new.order.items c.loop-turn.has c.add_targets.new.has c.loop-turn.turn c.index-number.result.now c.index-blocks-number.result c.loop-turn.invariant.are c.loop-turn.invariant.closed (omega arith)
    c.index-number.ensures c.index-blocks-number.is c.in_ok-add_targets.ensures in
    record { are = next.are; closed = next.closed }

pub returns : goal.returns
returns c = in_order (map block_view c.args.blocks.now) c.loop-turn.order.items c.loop-turn.has c.loop-turn.turn c.loop-turn.invariant.are c.loop-turn.invariant.closed (let done = c.loop-turn-test.false in omega (arith, done))
