use Rattle.std.proofs.Common.{◌<◌, ◌≤◌}
use Rattle.std.specs.List.{AllWithin}
use Rattle.places.specs.declared.flow.FlowStep.{FlowStep}
use Rattle.places.proofs.search.place_bound.Given as goal

abbrev pub invariant-loop-step : goal.invariant-loop-step
invariant-loop-step l = AllWithin (λ (s : FlowStep). s.to.0 < l.bound) l.steps 0 l.step-index × (l.bound ≤ 4294967296)
