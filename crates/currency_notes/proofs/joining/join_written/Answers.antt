use Rattle.std.proofs.Common.{◌≡◌, ◌+◌, ◌<◌, ℕ, List, None, Option, Some, ap, arith, get_or, length, subst, sym, ◌∙◌}
use Rattle.std.specs.Prelude.{slice_get}
use Rattle.std.proofs.lemmas.List.{length-set}
use Rattle.currency_notes.proofs.Lists.{get_any}
use Rattle.currency_notes.proofs.Lowering.{fewer_all, fewer_least, fewer_put, fewer_same, known_put_kept, IsFewer}
use Rattle.currency_notes.proofs.joining.join_written.Goals as goal
use Rattle.currency_notes.proofs.joining.join_written.Goals.{then-is_lost, else-is_lost}

pub loop-k-preserved : goal.loop-k-preserved
loop-k-preserved c =
    let old = c.args.to.now in
    let from = c.args.from.now in
    let to = c.loop-k.to in
    let k = c.loop-k.k in
    let a : Option ℕ = get_or to k None in
    let inv = c.loop-k.invariant in
    let lt : k < length to = omega (arith, c.loop-k-test.true, c.loop-k.auto) in
    let is : a ≡ get_or to k a = get_any to k None a lt in
    elim c.if-is_lost.branch [
      | then-is_lost w ↦ record {
        size = ap (λ xs. length xs) w.to-is ∙ length-set to k None ∙ inv.size;
        kept = λ x y there too. subst (λ xs. slice_get xs x ≡ Some (Some y)) (sym w.to-is)
            (known_put_kept old from to k a lt is (λ q. c.is_lost.ensures.apart w.if-is_lost.true (q ∙ sym c.name_of.ensures)) inv.kept x y there too);
        fewer = (let y = c.is_lost.ensures.some w.if-is_lost.true in subst (λ (xs : List (Option ℕ)). IsFewer old from xs (k + 1)) (sym w.to-is) (fewer_put old from to k a y.0 lt is y.1 inv.fewer));
      }
      | else-is_lost w ↦ record {
        size = ap (λ xs. length xs) w.to-is ∙ inv.size;
        kept = λ x y there too. subst (λ xs. slice_get xs x ≡ Some (Some y)) (sym w.to-is) (inv.kept x y there too);
        fewer = subst (λ (xs : List (Option ℕ)). IsFewer old from xs (k + 1)) (sym w.to-is) (fewer_same old from to k a lt is (λ y q. sym c.name_of.ensures ∙ c.is_lost.ensures.same w.if-is_lost.false y q) inv.fewer);
      }
    ]

pub returns-clause-least : goal.returns-clause-least
returns-clause-least c = fewer_least c.args.to.now c.args.from.now c.loop-k.to c.loop-k.k c.loop-k.invariant.fewer

pub returns-clause-falls : goal.returns-clause-falls
returns-clause-falls c = (let size = c.loop-k.invariant.size in fewer_all c.args.to.now c.args.from.now c.loop-k.to c.loop-k.k (omega (arith, c.loop-k-test.false, c.loop-k.auto, size)) c.loop-k.invariant.fewer)
