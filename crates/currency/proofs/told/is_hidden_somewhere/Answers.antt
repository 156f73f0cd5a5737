use Rattle.std.proofs.Common.{◌≡◌, None, false, is_some, not, true, ap, arith, sym, ◌∙◌}
use Rattle.currency_notes.proofs.Lists.{each_all, each_more}
use Rattle.currency_shown.specs.declared.found.Unshown as declared-unshown
use Rattle.currency.proofs.Tellable.{none_first}
use Rattle.currency.proofs.told.is_hidden_somewhere.Goals as goal

some_shown : false ≡ true → ⊥
some_shown e = cc

pub loop-one-init : goal.loop-one-init
loop-one-init c = none_first c.args.unshown.now

pub loop-one-preserved : goal.loop-one-preserved
loop-one-preserved c =
    each_more (λ (u : declared-unshown.Unshown). u.last ≡ None → ⊥) c.args.unshown.now c.loop-one.one-index c.one-item.result c.loop-one-test.true c.one-item.is c.loop-one.invariant (λ none. some_shown (sym (ap is_some none) ∙ c.is_none.ensures ∙ ap not c.if-is_none.false))

pub returns : goal.returns
returns c = λ u among none. absurd (each_all (λ (z : declared-unshown.Unshown). z.last ≡ None → ⊥) c.args.unshown.now c.loop-one.one-index (omega arith) c.loop-one.invariant u among none)
