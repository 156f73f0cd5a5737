use Rattle.std.proofs.Common.{sym, arith}
use Rattle.c_token.proofs.Steps.{literal_on}
use Rattle.c_token.proofs.literal.literal_at.Goals as goal

pub loop-at-preserved : goal.loop-at-preserved
loop-at-preserved c = record {
  behind = omega (arith, c.in_ok-byte.ensures.within.0);
  in_range = c.in_ok-byte.ensures.within.1;
  same = rw c.in_ok-push.ensures.items (literal_on c.args.text.now _ c.args.start c.loop-at.at c.in_ok-byte.end c.in_ok-byte.byte c.loop-at.bytes.items _ c.loop-at-test.true c.if-text-at.false (sym c.in_ok-byte.ensures.exact) c.in_ok-byte.ensures.within.0 c.in_ok-byte.ensures.within.1 c.loop-at.invariant.same);
}
