use Rattle.std.proofs.Common.{sym, arith}
use Rattle.c_token.proofs.Steps.{block_ends, block_breaks, block_on}
use Rattle.c_token.proofs.comment.block_comment.Goals as goal

pub returns-then-stands-clause-exact : goal.returns-then-stands-clause-exact
returns-then-stands-clause-exact c = block_ends c.args.text.now c.args.start c.loop-at.at _ c.loop-at-test.true (sym c.if-stands.ensures.exact) c.loop-at.invariant.same

pub returns-then-is_replaced-clause-exact : goal.returns-then-is_replaced-clause-exact
returns-then-is_replaced-clause-exact c = block_breaks c.args.text.now c.args.start c.loop-at.at _ c.loop-at-test.true (sym c.if-stands.ensures.exact) (sym c.if-is_replaced.ensures) c.loop-at.invariant.same

pub loop-at-preserved : goal.loop-at-preserved
loop-at-preserved c = record {
  behind = omega arith;
  in_range = omega arith;
  same = block_on c.args.text.now c.args.start c.loop-at.at _ c.loop-at-test.true (sym c.if-stands.ensures.exact) (sym c.if-is_replaced.ensures) c.loop-at.invariant.same;
}
