use Rattle.std.proofs.Common.{◌≡◌, ◌+◌, List, ap, length, map, subst, sym, ◌∙◌, arith}
use Rattle.std.proofs.lemmas.List.{map-append}
use Rattle.graph_core.specs.declared.block.Block as declared-block
use Rattle.graph_core.specs.Graphs.{block_view}
use Rattle.graph_paths.specs.PathMarksTable.{bits_of}
use Rattle.dead_pass_rule.specs.Asking.{is_going}
use Rattle.dead_pass_rule.specs.Walks.{turn_of}
use Rattle.dead_pass.proofs.Leaving.{AreAhead, blocks_done, blocks_first, blocks_step, rest_count}
use Rattle.dead_pass.proofs.Saying.{AreUnderWay, blocks_begin, blocks_on}
use Rattle.dead_pass.proofs.notes.blocks_left.Goals as goal

pub loop-ahead-init : goal.loop-ahead-init
loop-ahead-init c =
    let idle = c.args.idle.now in
    let goes = is_going (turn_of idle.turns.items) in
    let led = bits_of idle.reached 0 in
    let all = map block_view c.args.blocks.now in
    record {
      counted = omega arith;
      left = subst (λ xs. AreAhead goes led all all 0 (map block_view xs)) (sym c.new-left.ensures.items) (blocks_first goes led all);
      said = λ log ready e. subst (λ (xs : List declared-block.Block). AreUnderWay log idle c.args.notes.now 0 all (map block_view xs)) (sym c.new-left.ensures.items) (blocks_begin log idle c.args.notes.now all ready e);
    }

pub loop-ahead-preserved : goal.loop-ahead-preserved
loop-ahead-preserved c =
    let inv = c.loop-ahead.invariant in
    let counted : c.loop-ahead.number + length c.loop-ahead.ahead.now ≡ length c.args.blocks.now = inv.counted in
    let some = c.in-len1-up.len_at_least in
    let rest = rest_count c.loop-ahead.ahead.now some in
    let grown = ap (λ xs. map block_view xs) c.in_ok-push.ensures.items ∙ map-append block_view _ _ in
    record {
      counted = omega (arith, counted, rest);
      left = blocks_step (is_going (turn_of c.args.idle.now.turns.items)) (bits_of c.args.idle.now.reached 0) block_view (map block_view c.args.blocks.now) _ _ _ c.loop-ahead.number c.block-item.result (block_view c.in_ok-next.next) some c.block-item.is
          grown c.in_ok-next.ensures.left inv.left;
      said = λ log ready e. blocks_on log c.args.idle.now block_view _ c.block-item.result _ _ c.loop-ahead.number (block_view c.in_ok-next.next) _ _ some c.block-item.is grown (c.in_ok-next.ensures.ready log) (c.in_ok-next.ensures.said log) (inv.said log ready e);
    }

pub returns-clause-left : goal.returns-clause-left
returns-clause-left c = blocks_done (is_going (turn_of c.args.idle.now.turns.items)) (bits_of c.args.idle.now.reached 0) block_view (map block_view c.args.blocks.now) _ _ _ c.in_default.len_below c.loop-ahead.invariant.left

pub returns-clause-said : goal.returns-clause-said
returns-clause-said c = λ log ready e. record { notes = (c.loop-ahead.invariant.said log ready e).said }
