use Rattle.std.proofs.Common.{◌≡◌, ℕ, take, true}
use Rattle.std.specs.Prelude.{All, Contains}
use Rattle.places.specs.declared.flow.FlowStep.{FlowStep}
use Rattle.places.specs.Flow.{can_go}
use Rattle.currency_writers.specs.Lists.{count_of, entries_of}
use Rattle.currency_writers.proofs.flow.after_of.Given as goal

abbrev pub invariant-loop-step : goal.invariant-loop-step
invariant-loop-step l = record {
  sound : (p q : ℕ) → Contains (entries_of l.after p) q → can_go l.steps p q ≡ true;
  all : All (λ (s : FlowStep). Contains (entries_of l.after s.from.0) s.to.0) (take l.step-index l.steps);
  count : count_of l.after ≡ l.places;
}
