-- Steps and assignments by positions in order are those by the numbers of places.
use Rattle.std.proofs.Common.{◌≡◌, ℕ, List, [], ◌∷◌, ◌++◌, map, refl, ap, ◌∙◌}
use Rattle.places.specs.declared.flow.FlowStep.{FlowStep}
use Rattle.places.specs.declared.flow.Assignment.{Assignment}
use Rattle.c_tree.specs.Programs.{ProgramTree}
use Rattle.c_places.specs.Places.{Place, place_number_at}
use Rattle.c_flow.specs.declared.edge.Edge.{Edge}
use Rattle.c_flow.specs.declared.assigned.Assigned.{Assigned}
use Rattle.c_flow.specs.Flow.{flow_step_of}
use Rattle.c_flow.specs.Assigns.{numbered_assigned, numbered_for, variable_number}
use Rattle.c_flow.specs.Tables.{assignments_among, place_number, step_between}

abbrev step : ℕ → ℕ → FlowStep
step from to = record { from = record { 0 = from }; to = record { 0 = to } }

pub same_steps : (places : List Place) (positions : List ℕ) → ((at : ℕ) → place_number positions at ≡ place_number_at places at) → (edges : List Edge) → map (step_between positions) edges ≡ map (flow_step_of places) edges
same_steps places positions same [] = refl
same_steps places positions same (e ∷ edges) =
    ap (λ (n : ℕ). step n (place_number positions e.to) ∷ map (step_between positions) edges) (same e.from)
    ∙ ap (λ (n : ℕ). step (place_number_at places e.from) n ∷ map (step_between positions) edges) (same e.to)
    ∙ ap (λ (r : List FlowStep). flow_step_of places e ∷ r) (same_steps places positions same edges)

pub same_assignments : (p : ProgramTree) (places : List Place) (positions : List ℕ) → ((at : ℕ) → place_number positions at ≡ place_number_at places at) → (all : List Assigned) → assignments_among p positions all ≡ numbered_assigned p places all
same_assignments p places positions same [] = refl
same_assignments p places positions same (a ∷ all) =
    ap (λ (n : ℕ). numbered_for n (variable_number p a.object) ++ assignments_among p positions all) (same a.at)
    ∙ ap (λ (r : List Assignment). numbered_for (place_number_at places a.at) (variable_number p a.object) ++ r) (same_assignments p places positions same all)
