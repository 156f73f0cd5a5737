-- Fronts of lists, and runs that only grow.
use Rattle.std.proofs.Common.{◌≡◌, ℕ, ◌+◌, ◌≤◌, sym, ap, ◌∙◌, arith, refl, List, [], ◌∷◌, ◌++◌}
use Rattle.event_runs.specs.Agreement.{Agree, Begins, Grows}
use Rattle.event_runs.specs.Following.{Shows}

-- what stands before both does not matter
pub begins_behind : {A : Type 0} (x : A) (front whole : List A) → Begins front whole → Begins (x ∷ front) (x ∷ whole)
begins_behind x front whole h = (h.0, ap (λ l. x ∷ l) h.1)

-- behind an event that it shows, a run that grows still grows
pub rest_grows : {A B : Type 0} (R : A → B → Type 0) (e : A) (run : ℕ → List B) (next : Shows R e run) → Grows run → Grows next.rest
rest_grows {A = A} {B = B} R e run next grows k j le =
    let m : ℕ = next.steps in
    let g = grows (m + k) (m + j) (omega arith) in
    let a = next.is k (m + k) refl in
    let b = next.is j (m + j) refl in
    let both : next.shown ∷ next.rest j ≡ next.shown ∷ (next.rest k ++ g.0) = sym b ∙ g.1 ∙ ap (λ l. l ++ g.0) a in
    (g.0, cc)

-- a front of a list agrees with what the list agrees with
pub front_agrees : {A B : Type 0} (R : A → B → Type 0) (es : List A) (front rest : List B) → Agree R es (front ++ rest) → Agree R es front
front_agrees R [] front rest h = tt
front_agrees R (e ∷ es) [] rest h = tt
front_agrees R (e ∷ es) (x ∷ front) rest h = (h.0, front_agrees R es front rest h.1)
