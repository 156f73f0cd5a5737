-- Sorted steps and assignments of which none stands twice are in order.
use Rattle.std.proofs.Common.{◌≡◌, ℕ, ◌<◌, ◌⊎◌, inl, inr, List, [], ◌∷◌, refl, sym, ap, ◌∙◌, arith}
use Rattle.std.specs.Prelude.{AllPairs}
use Rattle.std.specs.List.Sorted.{IsStrictlySortedBy}
use Rattle.std.specs.declared.cmp.Ordering.{Ordering}
use Rattle.std.specs.declared.cmp.Ordering.TheVariants.{Less, Greater}
use Rattle.std.specs.Ordering.{nat_cmp, ordering_then}
use Rattle.std.proofs.lemmas.Cmp.{ranked, by_ranked}
use Rattle.std.proofs.lemmas.List.Elements.{All-from_recursion}
use Rattle.std.proofs.lemmas.List.Kept.{AllPairs-cons}
use Rattle.std.proofs.lemmas.Map.Keys.{sorted_head, sorted_tail}
use Rattle.places.specs.declared.flow.FlowStep.{FlowStep}
use Rattle.places.specs.declared.flow.Assignment.{Assignment}
use Rattle.places.specs.Flow.{AreInOrder, IsAssignmentBefore}

-- of two items of a list in strict order the earlier one is less
strict_pairs : {X : Type 0} (R : X → X → Ordering) (xs : List X) → IsStrictlySortedBy R xs → AllPairs (λ x y. R x y ≡ Less) xs
strict_pairs R [] h = λ i j d lt within. absurd (omega arith)
strict_pairs R (x ∷ xs) h = AllPairs-cons (λ y z. R y z ≡ Less) x xs (All-from_recursion (λ y. R x y ≡ Less) xs (sorted_head R x xs h)) (strict_pairs R xs (sorted_tail R x xs h))

-- what a pair of numbers that is less says of them
pair_less : (a b c d : ℕ) → ordering_then (nat_cmp a b) (nat_cmp c d) ≡ Less → (a < b) ⊎ ((a ≡ b) × (c < d))
pair_less a b c d less =
    by_ranked (a < b) (a ≡ b) (b < a) (nat_cmp a b) (ranked a b (nat_cmp a b) refl) (λ is p. inl p)
    (λ is p.
    let then_less : nat_cmp c d ≡ Less = ap (λ o. ordering_then o (nat_cmp c d)) (sym is) ∙ less in
    by_ranked (c < d) (c ≡ d) (d < c) (nat_cmp c d) (ranked c d (nat_cmp c d) refl) (λ here q. inr (p, q)) (λ here q. absurd (cc)) (λ here q. absurd (cc)))
    (λ is p. let greater : Greater ≡ Less = ap (λ o. ordering_then o (nat_cmp c d)) (sym is) ∙ less in absurd (cc))

abbrev pub step_cmp : FlowStep → FlowStep → Ordering
step_cmp s u = ordering_then (nat_cmp s.from.0 u.from.0) (nat_cmp s.to.0 u.to.0)

pub steps_in_order : (steps : List FlowStep) → IsStrictlySortedBy step_cmp steps → AreInOrder steps
steps_in_order steps h = λ i j d lt within. pair_less _ _ _ _ (strict_pairs step_cmp steps h i j d lt within)

abbrev pub assignment_cmp : Assignment → Assignment → Ordering
assignment_cmp a b = ordering_then (nat_cmp a.place.0 b.place.0) (nat_cmp a.var.0 b.var.0)

pub assignments_in_order : (assignments : List Assignment) → IsStrictlySortedBy assignment_cmp assignments → AllPairs IsAssignmentBefore assignments
assignments_in_order assignments h = λ i j d lt within. pair_less _ _ _ _ (strict_pairs assignment_cmp assignments h i j d lt within)
