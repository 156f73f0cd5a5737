-- Lists of events that lead to one another, layer by layer, and the run that follows the last.
use Rattle.std.proofs.Common.{ℕ, ◌+◌, List, [], ◌∷◌, ◌++◌, map, refl, subst}
use Rattle.std.specs.List.{AllByRecursion}
use Rattle.event_runs.specs.Agreement.{Pairs}
use Rattle.event_runs.specs.Following.{Follows}
use Rattle.home_assign.specs.Running.{Leads}

-- a list that is related to another one leads to all that begin with that
pub leads_front : {A B : Type 0} (R : A → B → Type 0) (xs : List A) (front rest : List B) → Pairs R xs front → Leads R xs (front ++ rest)
leads_front R [] front rest pairs = tt
leads_front R (x ∷ xs) [] rest pairs = absurd pairs
leads_front R (x ∷ xs) (y ∷ front) rest pairs = (pairs.0, leads_front R xs front rest pairs.1)

module _ {A B C D E : Type 0} (event : B → C) (Of : A → Type 0) (Runs : D → Type 0) (First : A → C → Type 0) (Second : B → D → Type 0) (Third : D → E → Type 0) where
  -- related by way of what is seen between
  pub record Through (a : A) (e : E) : Type 0 where
    pub upper : B
    pub lower : D
    pub of : Of a
    pub runs : Runs lower
    pub first : First a (event upper)
    pub second : Second upper lower
    pub third : Third lower e

  -- A run that follows what the events of an upper list lead to, by way of what is seen between, follows these.
  pub joined : (near far : ℕ) (all : List A) (bs : List B) (ds : List D) (run : ℕ → List E) → AllByRecursion Of all → AllByRecursion Runs ds → Leads First all (map event bs) → Leads Second bs ds → Follows Third near far ds run → Follows Through near far all run
  joined near far [] bs ds run of runs above between below = tt
  joined near far (a ∷ all) [] ds run of runs above between below = absurd above
  joined near far (a ∷ all) (b ∷ bs) [] run of runs above between below = absurd between
  joined near far (a ∷ all) (b ∷ bs) (d ∷ ds) run of runs above between below = (
    record { steps = below.0.steps; shown = below.0.shown; rest = below.0.rest; same = record { upper = b; lower = d; of = of.0; runs = runs.0; first = above.0; second = between.0; third = below.0.same }; is = below.0.is },
    below.1,
    joined far far all bs ds below.0.rest of.1 runs.1 above.1 between.1 below.2,
  )

-- a run that follows events follows them by what those relations lead to
pub follows_by : {A B : Type 0} (R S : A → B → Type 0) → ((a : A) (b : B) → R a b → S a b) → (near far : ℕ) (all : List A) (run : ℕ → List B) → Follows R near far all run → Follows S near far all run
follows_by R S so near far [] run follows = tt
follows_by R S so near far (a ∷ all) run follows =
    (record { steps = follows.0.steps; shown = follows.0.shown; rest = follows.0.rest; same = so a follows.0.shown follows.0.same; is = follows.0.is }, follows.1, follows_by R S so far far all follows.0.rest follows.2)

-- what is so of all that a run shows is so of what follows
pub follows_kept : {A B : Type 0} (R : A → B → Type 0) (P : B → Type 0) (near far : ℕ) (all : List A) (run : ℕ → List B) → ((k : ℕ) → AllByRecursion P (run k)) → Follows R near far all run → Follows (λ a b. R a b × P b) near far all run
follows_kept R P near far [] run kept follows = tt
follows_kept R P near far (a ∷ all) run kept follows =
    let next = follows.0 in
    let m : ℕ = next.steps in (
      record { steps = m; shown = next.shown; rest = next.rest; same = (next.same, (subst (AllByRecursion P) (next.is 0 (m + 0) refl) (kept (m + 0))).0); is = next.is },
      follows.1,
      follows_kept R P far far all next.rest (λ k. (subst (AllByRecursion P) (next.is k (m + k) refl) (kept (m + k))).1) follows.2,
    )
