-- Steps of flow that are in order.
use Rattle.std.proofs.Common.{ℕ, inl, inr, [], ◌∷◌, refl, arith, lit<}
use Rattle.std.proofs.lemmas.List.Elements.{All-nil, All-cons}
use Rattle.std.proofs.lemmas.List.Kept.{AllPairs-cons}
use Rattle.places.specs.declared.flow.FlowStep.{FlowStep}
use Rattle.places.specs.Flow.{AreInOrder, IsStepBefore}

-- a step from the one place to the other
abbrev step : (from to : ℕ) → FlowStep
step from to = record { from = record { 0 = from }; to = record { 0 = to } }

pub by_two : AreInOrder (step 1 2 ∷ step 1 3 ∷ step 2 4 ∷ step 3 4 ∷ [])
by_two =
    AllPairs-cons IsStepBefore (step 1 2) (step 1 3 ∷ step 2 4 ∷ step 3 4 ∷ [])
    (All-cons (IsStepBefore (step 1 2)) (step 1 3) (step 2 4 ∷ step 3 4 ∷ []) (inr (refl, lit< tt)) (All-cons (IsStepBefore (step 1 2)) (step 2 4) (step 3 4 ∷ []) (inl (lit< tt)) (All-cons (IsStepBefore (step 1 2)) (step 3 4) [] (inl (lit< tt)) (All-nil (IsStepBefore (step 1 2))))))
    (AllPairs-cons IsStepBefore (step 1 3) (step 2 4 ∷ step 3 4 ∷ [])
    (All-cons (IsStepBefore (step 1 3)) (step 2 4) (step 3 4 ∷ []) (inl (lit< tt)) (All-cons (IsStepBefore (step 1 3)) (step 3 4) [] (inl (lit< tt)) (All-nil (IsStepBefore (step 1 3)))))
    (AllPairs-cons IsStepBefore (step 2 4) (step 3 4 ∷ [])
    (All-cons (IsStepBefore (step 2 4)) (step 3 4) [] (inl (lit< tt)) (All-nil (IsStepBefore (step 2 4))))
    (AllPairs-cons IsStepBefore (step 3 4) [] (All-nil (IsStepBefore (step 3 4))) (λ i j d below within. absurd (omega (arith, within))))))
