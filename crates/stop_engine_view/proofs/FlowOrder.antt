-- The steps of an image stand in order.
use Rattle.std.proofs.Common.{ℕ, zero, suc, ◌<◌, List, [], ◌∷◌, length, map, get_or, inl, inr, ◌∙◌, arith}
use Rattle.image_form.specs.declared.tables.FlowPair.{FlowPair}
use Rattle.image_form.specs.Lists.{EachToNext}
use Rattle.image_form.specs.RulesOfChanges.{IsPairBefore}
use Rattle.places.specs.declared.flow.FlowStep.{FlowStep}
use Rattle.places.specs.Flow.{AreInOrder, IsStepBefore}
use Rattle.stop_engine_view.specs.Evidence.{step_of}

step_before_trans : (s u v : FlowStep) → IsStepBefore s u → IsStepBefore u v → IsStepBefore s v
step_before_trans s u v (inl g) (inl h) = inl (omega arith)
step_before_trans s u v (inl g) (inr h) = inl (omega (arith, h.0))
step_before_trans s u v (inr g) (inl h) = inl (omega (arith, g.0))
step_before_trans s u v (inr g) (inr h) = inr (g.0 ∙ h.0, omega (arith, g.1, h.1))

-- the first step comes before each later one
first_before_later : (p : FlowPair) (pairs : List FlowPair) → EachToNext (λ (a b : FlowPair). IsPairBefore a.from a.to b.from b.to) (p ∷ pairs) → (j : ℕ) (d : FlowStep) → j < length (map step_of pairs)
    → IsStepBefore (step_of p) (get_or (map step_of pairs) j d)
first_before_later p [] ascend j d lt = absurd (omega arith)
first_before_later p (q ∷ pairs) ascend zero d lt = ascend.0
first_before_later p (q ∷ pairs) ascend (suc j) d lt =
    step_before_trans (step_of p) (step_of q) (get_or (map step_of pairs) j d) ascend.0 (first_before_later q pairs ascend.1 j d (omega arith))

pub steps_in_order : (pairs : List FlowPair) → EachToNext (λ (a b : FlowPair). IsPairBefore a.from a.to b.from b.to) pairs → AreInOrder (map step_of pairs)
steps_in_order [] ascend i j d lt within = absurd (omega arith)
steps_in_order (p ∷ pairs) ascend zero zero d lt within = absurd (omega arith)
steps_in_order (p ∷ pairs) ascend (suc i) zero d lt within = absurd (omega arith)
steps_in_order (p ∷ pairs) ascend zero (suc j) d lt within = first_before_later p pairs ascend j d (omega arith)
steps_in_order (p ∷ pairs) ascend (suc i) (suc j) d lt within = steps_in_order pairs ascend.1 i j d (omega arith) (omega arith)
