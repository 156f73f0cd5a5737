use Rattle.std.proofs.Common.{◌≡◌, ◌<◌, ℕ, None, Option, Some, arith, ap, get_or, length, refl, sym, ◌∙◌}
use Rattle.std.specs.Prelude.{slice_get}
use Rattle.std.proofs.lemmas.Option.{slice_get-get_or, slice_get_within}
use Rattle.currency_notes.proofs.Lists.{get_any}
use Rattle.currency_notes.proofs.Lowering.{known_more, name_there}
use Rattle.currency_notes.proofs.within.are_written.Goals as goal

pub loop-k-preserved : goal.loop-k-preserved
loop-k-preserved c =
    let k = c.loop-k.k in
    let a : Option ℕ = get_or c.args.less.now k None in
    let lt : k < length c.args.less.now = omega (arith, c.loop-k-test.true, c.loop-k.auto) in
    known_more c.args.less.now c.args.more.now c.args.less.now k a lt (get_any c.args.less.now k None a lt) refl (λ y q. sym c.name_of.ensures ∙ c.is_lost.ensures.same c.if-is_lost.false y q) c.loop-k.invariant

pub returns-then-is_lost-clause-apart : goal.returns-then-is_lost-clause-apart
returns-then-is_lost-clause-apart c = λ e each.
    (let k = c.loop-k.k in
    let a : Option ℕ = get_or c.args.less.now k None in
    let lt : k < length c.args.less.now = omega (arith, c.loop-k-test.true, c.loop-k.auto) in
    let y = c.is_lost.ensures.some c.if-is_lost.true in
    let here : slice_get c.args.less.now k ≡ Some (Some y.0) = slice_get-get_or c.args.less.now k None lt ∙ ap Some y.1 in
    c.is_lost.ensures.apart c.if-is_lost.true (y.1 ∙ sym (c.name_of.ensures ∙ name_there c.args.more.now k (Some y.0) (each k y.0 here))))

pub returns-clause-within : goal.returns-clause-within
returns-clause-within c = λ e x y there. c.loop-k.invariant x y (let lt = slice_get_within c.args.less.now x (Some y) there in omega (arith, lt)) there
