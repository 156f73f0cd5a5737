-- One call, and one round.
use Rattle.std.proofs.Common.{◌≡◌, ℕ, zero, suc, ◌-◌, ◌<◌, List, [], ◌∷◌, Some, refl, sym, ap, arith}
use Rattle.std.specs.Prelude.{slice_get}
use Rattle.c_tree.specs.Programs.{ProgramTree, TypedFunctionTree}
use Rattle.c_meaning.specs.Weights.{weight_of_statements, heaviest}
use Rattle.c_meaning_values.specs.declared.value.Value.{Value}
use Rattle.c_meaning_steps.specs.declared.event.Frame.{Frame}
use Rattle.c_places.specs.Places.{Place}
use Rattle.c_meaning_steps.specs.declared.state.Outcome as declared-outcome
use Rattle.c_meaning_steps.specs.declared.state.Outcome.TheVariants as outcome
use Rattle.c_meaning_steps.specs.Views.{outcome_view}
use Rattle.c_meaning_steps.specs.States.{State, Outcome, Next}
use Rattle.c_meaning.specs.Activations.{Activation}
use Rattle.c_meaning.specs.Statements.{rounds, then_do}
use Rattle.c_meaning.specs.Runs.{activate, calls_at, calls_of}

-- where an activation may begin, the function is activated
pub calls_step : (p : ProgramTree) (places : List Place) (left : ℕ) (waiting : List Frame) (f : ℕ) (vs : List Value) (s : State) → 0 < left
    → calls_of p places left waiting f vs s
    ≡ activate (calls_at (record { program = p; places = places; function = f; waiting = waiting }) (left - 1)) (record { program = p; places = places; function = f; waiting = waiting }) (slice_get p.functions f) vs s
calls_step p places zero waiting f vs s h = absurd (omega arith)
calls_step p places (suc left) waiting f vs s h =
    let same : suc left - 1 ≡ left = omega arith in
    let here : Activation = record { program = p; places = places; function = f; waiting = waiting } in
    ap (λ k. activate (calls_at here k) here (slice_get p.functions f) vs s) (sym same)

pub rounds_step : (n : ℕ) (round : (State → Outcome) → State → Outcome) (s : State) → 0 < n → rounds n round s ≡ round (rounds (n - 1) round) s
rounds_step zero round s h = absurd (omega arith)
rounds_step (suc n) round s h = let e : suc n - 1 ≡ n = omega arith in ap (λ k. round (rounds k round) s) (sym e)

-- a body weighs less than the heaviest
pub weighs_less : (fs : List TypedFunctionTree) (i : ℕ) (f : TypedFunctionTree) → slice_get fs i ≡ Some f → weight_of_statements f.body < heaviest fs
weighs_less [] i f e = cc
weighs_less (g ∷ fs) zero f e = let same : g ≡ f = cc in omega (arith, ap (λ h. weight_of_statements h.body) same)
weighs_less (g ∷ fs) (suc i) f e = omega (arith, weighs_less fs i f e)

-- what follows a statement that goes on
pub goes_on : (o : Outcome) (s : State) (go : State → Outcome) → Next s ≡ o → go s ≡ then_do o go
goes_on o s go e = ap (λ p. then_do p go) e

-- nothing follows a statement that leaves
pub leaves : (o : declared-outcome.Outcome) (s : State) (go : State → Outcome) → (o ≡ outcome.Next → ⊥) → outcome_view o s ≡ then_do (outcome_view o s) go
leaves outcome.Next s go h = absurd (h refl)
leaves outcome.Broken s go h = refl
leaves outcome.Continued s go h = refl
leaves (outcome.Returned v) s go h = refl
leaves (outcome.Ended e) s go h = refl
