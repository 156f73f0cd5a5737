use Rattle.std.proofs.Common.{◌≡◌, ◌<◌, ◌+◌, length, subst, ap, map, arith, ◌∙◌}
use Rattle.std.specs.Prelude.{IfSome}
use Rattle.std.proofs.lemmas.List.{map-append}
use Rattle.graph_core.specs.Graphs.{block_view, scalar_view}
use Rattle.copy_pass_rule.specs.Flow.{IsReadBlock}
use Rattle.graph_paths.specs.PathMarksTable.{bits_of}
use Rattle.copy_pass_rule.proofs.Standing.{one_from, rest_from}
use Rattle.copy_pass_rule.proofs.Walked.{blocks_all, blocks_step, rest_count}
use Rattle.copy_pass_rule.proofs.blocks.read_blocks.Goals as goal

pub loop-ahead-preserved : goal.loop-ahead-preserved
loop-ahead-preserved c =
    let inv = c.loop-ahead.invariant in
    let counted : c.loop-ahead.number + length c.loop-ahead.ahead.now ≡ length c.args.blocks.now = inv.counted in
    let some = c.in-len1-up.len_at_least in
    let rest = rest_count c.loop-ahead.ahead.now some in
    let lt : c.loop-ahead.number < length c.args.blocks.now = omega (arith, counted, some) in
    record {
      count = c.in_ok-made.ensures.same_count ∙ inv.count;
      width = c.in_ok-made.ensures.same_width ∙ inv.width;
      counted = omega (arith, counted, rest);
      from = rest_from c.args.blocks.now c.loop-ahead.number c.loop-ahead.ahead.now some inv.from;
      read = blocks_step block_view (map scalar_view c.args.scalars.now) c.args.copies.now.all.now (bits_of c.args.starts.now) (map block_view c.args.blocks.now) c.loop-ahead.number _ c.block-item.result _ _ _ (block_view c.in-Some.made) some c.block-item.is
          (ap (λ xs. map block_view xs) c.in_ok-push.ensures.items ∙ map-append block_view _ _)
          (subst (λ o. IfSome o (λ made. IsReadBlock (map scalar_view c.args.scalars.now) c.args.copies.now.all.now (bits_of c.args.starts.now) c.loop-ahead.number (block_view c.block-item.result) (block_view made))) c.in-Some.is c.in_ok-made.ensures.read) inv.read;
    }

pub returns-clause-read : goal.returns-clause-read
returns-clause-read c = blocks_all block_view (map scalar_view c.args.scalars.now) c.args.copies.now.all.now (bits_of c.args.starts.now) (map block_view c.args.blocks.now) _ _ _ c.in_default.len_below c.loop-ahead.invariant.read

pub returns-in_default-2-clause-none : goal.returns-in_default-2-clause-none
returns-in_default-2-clause-none c = λ e. record {
  number = c.loop-ahead.number;
  block = block_view c.block-item.result;
  is = one_from c.args.blocks.now c.loop-ahead.number block_view c.loop-ahead.ahead.now c.block-item.result _ c.in-len1-up.len_at_least
      c.block-item.is c.loop-ahead.invariant.from;
  unknown = c.in_ok-made.ensures.none c.in_default-2.is;
}
