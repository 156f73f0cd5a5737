-- A part of the source, and another one behind it.
use Rattle.std.proofs.Common.{◌≡◌, List, [], ◌∷◌, ◌++◌, refl, sym, ap, append_assoc}
use Rattle.c_type_declarations.specs.Progress.{ProgressTree, Met, means, next_met, reached_by}

-- behind what a part means
pub next_means : {A B : Type 0} (a : A) (p : ProgressTree) (f : A → ProgressTree → Met B) → next_met (means a p) f ≡ f a p
unfolding next_met
next_means a p f = refl

pub reached_means : {A : Type 0} (a : A) (p : ProgressTree) (f : A → ProgressTree → ProgressTree) → reached_by (means a p) f ≡ f a p
unfolding reached_by
reached_means a p f = refl

-- nothing before what is met
pub next_all : {A : Type 0} (m : Met (List A)) → next_met m (λ bs. means ([] ++ bs)) ≡ m
unfolding next_met
next_all (means bs p) = refl

-- one more before what is met
pub next_more : {A : Type 0} (m : Met (List A)) (a : A) (done : List A) → next_met (next_met m (λ bs. means (a ∷ bs))) (λ bs. means (done ++ bs)) ≡ next_met m (λ bs. means ((done ++ a ∷ []) ++ bs))
unfolding next_met
next_more (means bs p) a done = ap (λ cs. means cs p) (sym (append_assoc done (a ∷ []) bs))
