-- What follows from a run that follows a list of events.
use Rattle.std.proofs.Common.{◌≡◌, ℕ, zero, suc, ◌+◌, ◌-◌, ◌*◌, ◌≤◌, sym, ap, ◌∙◌, subst, arith, refl, List, [], ◌∷◌, ◌++◌, length}
use Rattle.event_runs.specs.Agreement.{Agree, Begins, Grows}
use Rattle.event_runs.specs.Following.{Shows, Follows}
use Rattle.event_runs.proofs.Growing.{rest_grows, front_agrees}

-- a run that comes to another one after m steps shows what that one shows
abbrev pub shows_later : {A B : Type 0} (R : A → B → Type 0) (m : ℕ) (e : A) (run later : ℕ → List B) → ((k j : ℕ) → j ≡ m + k → run j ≡ later k) → Shows R e later → Shows R e run
shows_later R m e run later by next = record {
  steps = m + next.steps;
  shown = next.shown;
  rest = next.rest;
  same = next.same;
  is = λ k j ej. by (next.steps + k) j (omega arith) ∙ next.is k (next.steps + k) refl;
}

-- and follows what that one follows
pub follows_later : {A B : Type 0} (R : A → B → Type 0) (m near far more : ℕ) (es : List A) (run later : ℕ → List B) → ((k j : ℕ) → j ≡ m + k → run j ≡ later k) → m + near ≤ far → Follows R near more es later → Follows R far more es run
follows_later R m near far more [] run later by le h = tt
follows_later R m near far more (e ∷ es) run later by le h = (shows_later R m e run later by h.0, omega (arith, h.1), h.2)

-- a run that follows a list of events agrees with it, whatever its bound
pub follows_agree : {A B : Type 0} (R : A → B → Type 0) (first more : ℕ) (es : List A) (run : ℕ → List B) → Follows R first more es run → Grows run → (k : ℕ) → Agree R es (run k)
follows_agree R first more [] run h grows k = tt
follows_agree R first more (e ∷ es) run h grows k =
    let next = h.0 in
    let m : ℕ = next.steps in
    let g = grows k (m + k) (omega arith) in
    let a = next.is k (m + k) refl in
    let whole : Agree R (e ∷ es) (next.shown ∷ next.rest k) = (next.same, follows_agree R more more es next.rest h.2 (rest_grows R e run next grows) k) in
    front_agrees R (e ∷ es) (run k) g.0 (subst (Agree R (e ∷ es)) (sym a ∙ g.1) whole)

-- with so many steps for each of them, it shows the first i events
pub follows_reach : {A B : Type 0} (R : A → B → Type 0) (more : ℕ) (es : List A) (run : ℕ → List B) → Follows R more more es run → (i k : ℕ) → i ≤ length es → i * more ≤ k → i ≤ length (run k)
follows_reach R more es run h zero k le enough = omega arith
follows_reach R more [] run h (suc i) k le enough = absurd (omega arith)
follows_reach R more (e ∷ es) run h (suc i) k le enough =
    let next = h.0 in
    let m : ℕ = next.steps in
    let soon : m ≤ more = h.1 in
    let split : suc i * more ≡ i * more + more = grind arith in
    let a : run k ≡ next.shown ∷ next.rest (k - m) = next.is (k - m) k (omega arith) in
    let behind : i ≤ length (next.rest (k - m)) = follows_reach R more es next.rest h.2 i (k - m) (omega arith) (omega arith) in
    let long : length (run k) ≡ suc (length (next.rest (k - m))) = ap length a in
    omega arith
