-- Statements that are chosen by a condition do what they mean.
use Rattle.std.proofs.Common.{ℕ, List, [], Option, Some, None, refl}
use Rattle.debug_records.specs.declared.source.Spot.{Spot}
use Rattle.c_tree.specs.TypedExpressions.{RvalueTree}
use Rattle.c_meaning_steps.specs.States.{State, Outcome, Next, choose}
use Rattle.c_meaning.specs.Activations as activations
use Rattle.c_meaning.specs.Statements.{test_at}
use Rattle.c_flow.specs.declared.edge.Ways.{Ways}
use Rattle.graph_core.specs.Runs.{Configuration, Event}
use Rattle.graph_build_statements.specs.Coding.{begun, branching}
use Rattle.graph_build_runs.proofs.Leads.{Local, World}
use Rattle.graph_build_runs.proofs.Kept.{Sound, Fits}
use Rattle.graph_build_runs.proofs.Activities.{Activity, coding_in, here_in, place_at}
use Rattle.graph_build_runs.proofs.Outcomes.{Comes, Arrives, holding_since, GoesOn, grown_none}
use Rattle.graph_build_runs.proofs.Stops.{Lawful, place_begins}
use Rattle.graph_build_runs.proofs.AtPlaces.{Works, Begins, begun_above, branch_runs}

-- a run that has come to a place
pub arrives_at : (k : Activity) (c : Configuration) (es : List Event) (low high : ℕ) (next : Option ℕ) (place : ℕ) (l : Local) (u : World) (s : State) → Comes k c es next place l u → Sound k.setting.program s.memory s → Fits k.setting None s l u → Arrives k c es low high [] s.memory next s
arrives_at k c es low high next place l u s comes sound fits = record { place = place; local = l; world = u; comes = comes; sound = sound; fits = fits; grown = grown_none k low high s.memory; brings = tt }

module _ (k : Activity) (law : Lawful k) (scope : List ℕ) (low : ℕ) (w : Ways) (spot : Spot) (e : RvalueTree) (works : Works k (place_at k spot.at) e) where
  -- A condition, and what follows it either way.
  pub chosen_goes : (one other : Option ℕ) (if_so if_not : State → Outcome) → Begins k scope spot.at (λ t i. branching (coding_in k) spot.at e t one other i) → GoesOn k low low [] w scope one if_so → GoesOn k low low [] w scope other if_not
      → GoesOn k low low [] w scope (Some spot.at) (λ s. activations.at (here_in k) spot s (λ t. choose (test_at k.calls (here_in k) spot e t) if_so if_not))
  chosen_goes one other if_so if_not b go_yes go_no =
      place_begins k law scope spot (branching (coding_in k) spot.at e b.free one other b.inner) b.block b.here low low [] w (λ s. choose (test_at k.calls (here_in k) spot e s) if_so if_not)
      (λ c es l u s leads sound fits h ready.
      branch_runs k spot.at e works c es l u s sound fits ready (begun (coding_in k) b.free) (begun_above k b.free b.size) low low [] w b.free refl one other b.inner if_so if_not b.stands leads
      (λ s2 l2 u2 to sound2 fits2 since. go_yes c es (place_at k spot.at) l2 u2 s2 to sound2 fits2 (holding_since k scope low s.memory s2.memory h since))
      (λ s2 l2 u2 to sound2 fits2 since. go_no c es (place_at k spot.at) l2 u2 s2 to sound2 fits2 (holding_since k scope low s.memory s2.memory h since)))

  -- what goes on behind a statement
  pub next_goes : (next : Option ℕ) → GoesOn k low low [] (record w { next = next }) scope next Next
  next_goes next c es place l u s comes sound fits h = arrives_at k c es low low next place l u s comes sound fits
