use Rattle.std.proofs.Common.{ap, arith, length, ◌∙◌}
use Rattle.std.proofs.lemmas.List.{length-append}
use Rattle.currency_shown.proofs.Walking.{entries_pushed}
use Rattle.currency_shown.proofs.unshown.nothing.Goals as goal

pub loop-unshown-preserved : goal.loop-unshown-preserved
loop-unshown-preserved c = record {
  none = entries_pushed c.loop-unshown.unshown.items c.push.new.self.items _ c.in_ok-push.ensures.items c.new.ensures.items c.loop-unshown.invariant.none;
  most = (let e = ap (λ xs. length xs) c.in_ok-push.ensures.items ∙ length-append c.loop-unshown.unshown.items _ in omega (arith, e, c.loop-unshown-test.true));
}
