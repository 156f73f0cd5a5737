use Rattle.std.proofs.Common.{◌<◌, arith, length, refl, subst, sym}
use Rattle.std.specs.Prelude.{IfSome}
use Rattle.currency_notes.specs.declared.noted.Noted as declared-noted
use Rattle.currency_notes.specs.Notes.{noted_in}
use Rattle.currency_notes.specs.Ranks.{IsNotedWithin}
use Rattle.currency_notes.proofs.Lowering.{noted_all, noted_more, noted_there}
use Rattle.currency_notes.proofs.within.are_noted.Goals as goal

pub loop-k-preserved : goal.loop-k-preserved
loop-k-preserved c =
    let k = c.loop-k.k in
    let a = c.index-less-k.result in
    let lt : k < length c.args.less.now = omega (arith, c.loop-k-test.true, c.loop-k.auto) in
    noted_more c.args.less.now c.args.more.now c.args.less.now k a lt c.index-less-k.is refl
    (subst (λ (n : declared-noted.Noted). IsNotedWithin k a n) c.noted_of.ensures (c.join.ensures.within c.in-None.is)) c.loop-k.invariant

pub returns-in-Some-clause-apart : goal.returns-in-Some-clause-apart
returns-in-Some-clause-apart c = λ e each.
    (let k = c.loop-k.k in
    let a = c.index-less-k.result in
    let lt : k < length c.args.less.now = omega (arith, c.loop-k-test.true, c.loop-k.auto) in
    subst (λ o. IfSome o (λ n. IsNotedWithin k a c.noted_of.result → ⊥)) c.in-Some.is c.join.ensures.apart
    (subst (λ (n : declared-noted.Noted). IsNotedWithin k n c.noted_of.result) (noted_there c.args.less.now k a lt c.index-less-k.is) (subst (λ (n : declared-noted.Noted). IsNotedWithin k (noted_in c.args.less.now k) n) (sym c.noted_of.ensures) (each k))))

pub returns-clause-within : goal.returns-clause-within
returns-clause-within c = λ e. noted_all c.args.less.now c.args.more.now c.loop-k.k (omega arith) c.loop-k.invariant
