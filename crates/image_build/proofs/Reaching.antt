-- A run that reaches what another one shows reaches, by way of it, what that one reaches.
use Rattle.std.proofs.Common.{◌≡◌, ℕ, List, [], ◌∷◌, ◌++◌, refl, ap, ◌∙◌, subst, append_assoc}
use Rattle.event_runs.specs.Agreement.{Pairs}
use Rattle.event_runs.specs.Following.{Reached, Both}

-- What is paired with a list that goes on behind a front: a front of it is paired with that front.
pub pairs_front : {A B : Type 0} (R : A → B → Type 0) (front rest : List A) (ys : List B) → Pairs R (front ++ rest) ys → (zs : List B) × (more : List B) × (ys ≡ zs ++ more) × Pairs R front zs
pairs_front R [] rest ys pairs = ([], ys, refl, tt)
pairs_front R (x ∷ front) rest [] pairs = absurd pairs
pairs_front R (x ∷ front) rest (y ∷ ys) pairs = let r = pairs_front R front rest ys pairs.1 in (y ∷ r.0, r.1, ap (λ l. y ∷ l) r.2, (pairs.0, r.3))

-- Lists that are paired, one by one, by way of a list between.
pub pairs_both : {A B C : Type 0} (R : A → B → Type 0) (S : B → C → Type 0) (xs : List A) (ys : List B) (zs : List C) → Pairs R xs ys → Pairs S ys zs → Pairs (Both R S) xs zs
pairs_both R S [] [] zs p q = pairs_none zs q
  where
    pairs_none : (zs : List _) → Pairs S [] zs → Pairs (Both R S) [] zs
    pairs_none [] q = tt
    pairs_none (z ∷ zs) q = absurd q
pairs_both R S [] (y ∷ ys) zs p q = absurd p
pairs_both R S (x ∷ xs) [] zs p q = absurd p
pairs_both R S (x ∷ xs) (y ∷ ys) [] p q = absurd q
pairs_both R S (x ∷ xs) (y ∷ ys) (z ∷ zs) p q = ((y, p.0, q.0), pairs_both R S xs ys zs p.1 q.1)

-- Where a run reaches events, and another reaches whatever the first shows, the other reaches the events by way of what the first shows.
pub reached_both : {A B C : Type 0} (R : A → B → Type 0) (S : B → C → Type 0) (events : List A) (between : ℕ → List B) (last : ℕ → List C) → Reached R events between → ((n : ℕ) → Reached S (between n) last) → Reached (Both R S) events last
reached_both R S events between last first down =
    let second = down first.steps in
    let front = pairs_front S first.shown first.more second.shown (subst (λ l. Pairs S l second.shown) first.is second.same) in
    record {
      steps = second.steps;
      shown = front.0;
      more = front.1 ++ second.more;
      is = second.is ∙ ap (λ l. l ++ second.more) front.2 ∙ append_assoc front.0 front.1 second.more;
      same = pairs_both R S events first.shown front.0 first.same front.3;
    }
