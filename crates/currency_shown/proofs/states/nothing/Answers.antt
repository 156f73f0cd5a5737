use Rattle.std.proofs.Common.{None, [], ◌∷◌, ap, arith, length, ◌∙◌}
use Rattle.std.proofs.lemmas.List.{length-append}
use Rattle.currency_shown.proofs.Chaining.{nothing_pushed}
use Rattle.currency_shown.proofs.states.nothing.Goals as goal

pub loop-arrived-preserved : goal.loop-arrived-preserved
loop-arrived-preserved c = record {
  none = nothing_pushed c.loop-arrived.arrived.items c.push.new.self.items c.in_ok-push.ensures.items c.loop-arrived.invariant.none;
  most = (let e = ap (λ xs. length xs) c.in_ok-push.ensures.items ∙ length-append c.loop-arrived.arrived.items (None ∷ []) in omega (arith, e, c.loop-arrived-test.true));
}
