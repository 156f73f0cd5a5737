-- Where execution may go from place to place, and what the places assign.
use Rattle.std.specs.Prelude.{◌≡◌, ℕ, ◌<◌, ◌⊎◌, ◌==◌, ◌&&◌, Bool, List, AllPairs}
use Rattle.std.specs.List.{list_any}
use Rattle.places.specs.declared.flow.FlowStep.{FlowStep}
use Rattle.places.specs.declared.flow.Assignment.{Assignment}

-- whether execution may go from place p directly to place q
abbrev pub can_go : List FlowStep → (p q : ℕ) → Bool
can_go steps p q = list_any (λ (s : FlowStep). s.from.0 == p && s.to.0 == q) steps

-- whether place p assigns variable x
abbrev pub assigns : List Assignment → (p x : ℕ) → Bool
assigns assignments p x = list_any (λ (a : Assignment). a.place.0 == p && a.var.0 == x) assignments

-- one step comes before another: by the places that they lead from, then by those that they lead to
abbrev pub IsStepBefore : FlowStep → FlowStep → Type 0
IsStepBefore s u = (s.from.0 < u.from.0) ⊎ ((s.from.0 ≡ u.from.0) × (s.to.0 < u.to.0))

-- the steps are in order, and each stands once
abbrev pub AreInOrder : List FlowStep → Type 0
AreInOrder steps = AllPairs IsStepBefore steps

-- one assignment comes before another: by their places, then by their variables
abbrev pub IsAssignmentBefore : Assignment → Assignment → Type 0
IsAssignmentBefore a b = (a.place.0 < b.place.0) ⊎ ((a.place.0 ≡ b.place.0) × (a.var.0 < b.var.0))
