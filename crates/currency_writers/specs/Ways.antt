-- Ways through the flow of a program that pass no blocked place.
use Rattle.std.specs.Prelude.{◌≡◌, ℕ, Bool, true, false, List}
use Rattle.places.specs.declared.flow.FlowStep.{FlowStep}
use Rattle.places.specs.Flow.{can_go}

-- Execution may come from a place to another one, by one step at least, with no blocked place between them.
pub data Comes (steps : List FlowStep) (blocked : ℕ → Bool) (from : ℕ) : ℕ → Type 0 where
  at_once : {p : ℕ} → can_go steps from p ≡ true → Comes steps blocked from p
  on : {p q : ℕ} → Comes steps blocked from q → blocked q ≡ false → can_go steps q p ≡ true → Comes steps blocked from p
