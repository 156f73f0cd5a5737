use Rattle.std.proofs.Common.{◌≡◌, ◌+◌, ◌<◌, ℕ, List, Option, Some, ap, arith, length, subst, sym, ◌∙◌}
use Rattle.std.specs.Prelude.{IfSome, ◌⊎◌}
use Rattle.std.proofs.lemmas.List.{length-set}
use Rattle.graph_core.specs.Graphs.{Recipe}
use Rattle.currency_notes.specs.declared.noted.Noted as declared-noted
use Rattle.currency_notes.specs.Notes.{recipe_in, recipe_of, told_in, told_of}
use Rattle.currency_notes.specs.Ranks.{rank_of, IsNotedWithin}
use Rattle.currency_notes.proofs.Lowering.{kept_put, lowered_all, lowered_least, lowered_put, lowered_same, told_put, IsLowered}
use Rattle.currency_notes.proofs.joining.join_noted.Goals as goal
use Rattle.currency_notes.proofs.joining.join_noted.Goals.{in-Some, in-None}

pub loop-k-preserved : goal.loop-k-preserved
loop-k-preserved c =
    let old = c.args.to.now in
    let from = c.args.from.now in
    let to = c.loop-k.to in
    let k = c.loop-k.k in
    let a = c.index-to-k.result in
    let other = c.noted_of.result in
    let inv = c.loop-k.invariant in
    let lt : k < length to = omega (arith, c.loop-k-test.true, c.loop-k.auto) in
    elim c.match-join.branch [
      | in-Some w ↦ record {
        size = ap (λ xs. length xs) w.to-is ∙ length-set to k w.in-Some.joined ∙ inv.size;
        kept = λ x r said too. subst (λ xs. recipe_in xs x ≡ Some r) (sym w.to-is)
            (kept_put old from to k a other w.in-Some.joined lt c.index-to-k.is c.noted_of.ensures
            (subst (λ o. IfSome o (λ n. (q : Recipe) → recipe_of k a ≡ Some q → recipe_of k other ≡ Some q → recipe_of k n ≡ Some q)) w.in-Some.is c.join.ensures.kept) inv.kept x r said too);
        told = λ x d said. told_put old from to k a other w.in-Some.joined lt c.index-to-k.is c.noted_of.ensures
            (subst (λ o. IfSome o (λ n. (q : Option ℕ) → told_of n ≡ Some q → (told_of a ≡ Some q) ⊎ (told_of other ≡ Some q))) w.in-Some.is c.join.ensures.told) inv.told x d (subst (λ xs. told_in xs x ≡ Some d) w.to-is said);
        lowered = subst (λ (xs : List declared-noted.Noted). IsLowered old from xs (k + 1)) (sym w.to-is)
            (lowered_put old from to k a w.in-Some.joined lt c.index-to-k.is (subst (λ o. IfSome o (λ n. rank_of n < rank_of a)) w.in-Some.is c.join.ensures.falls) inv.lowered);
      }
      | in-None w ↦ record {
        size = ap (λ xs. length xs) w.to-is ∙ inv.size;
        kept = λ x r said too. subst (λ xs. recipe_in xs x ≡ Some r) (sym w.to-is) (inv.kept x r said too);
        told = λ x d said. inv.told x d (subst (λ xs. told_in xs x ≡ Some d) w.to-is said);
        lowered = subst (λ (xs : List declared-noted.Noted). IsLowered old from xs (k + 1)) (sym w.to-is)
            (lowered_same old from to k a lt c.index-to-k.is (subst (λ (n : declared-noted.Noted). IsNotedWithin k a n) c.noted_of.ensures (c.join.ensures.within w.in-None.is)) inv.lowered);
      }
    ]

pub returns-clause-least : goal.returns-clause-least
returns-clause-least c = lowered_least c.args.to.now c.args.from.now c.loop-k.to c.loop-k.k c.loop-k.invariant.lowered

pub returns-clause-falls : goal.returns-clause-falls
returns-clause-falls c = (let size = c.loop-k.invariant.size in lowered_all c.args.to.now c.args.from.now c.loop-k.to c.loop-k.k (omega (arith, c.loop-k-test.false, c.loop-k.auto, size)) c.loop-k.invariant.lowered)
