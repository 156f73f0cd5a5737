-- Loops do what they mean.
use Rattle.std.proofs.Common.{ℕ, zero, suc, ◌≤◌, List, [], Option, Some, arith}
use Rattle.debug_records.specs.declared.source.Spot.{Spot}
use Rattle.c_tree.specs.TypedExpressions.{RvalueTree}
use Rattle.c_meaning_steps.specs.States.{State, Outcome, Next, Holds, choose}
use Rattle.c_meaning.specs.Activations as activations
use Rattle.c_meaning.specs.Statements.{rounds, loop, while_round, do_round, for_round, test_at, after_body, then_do}
use Rattle.c_flow.specs.declared.edge.Ways.{Ways}
use Rattle.c_flow.specs.Flow.{within_loop}
use Rattle.graph_build_statements.specs.Coding.{branching, going}
use Rattle.graph_build_runs.proofs.Activities.{Activity, coding_in, here_in, place_at}
use Rattle.graph_build_runs.proofs.Outcomes.{There, holding_grown, GoesOn, then_runs, body_runs, halts_there}
use Rattle.graph_build_runs.proofs.Stops.{Lawful, place_begins}
use Rattle.graph_build_runs.proofs.AtPlaces.{Works, Begins, going_comes}
use Rattle.graph_build_runs.proofs.Branches.{arrives_at, chosen_goes}

module _ (k : Activity) (law : Lawful k) (scope : List ℕ) (low : ℕ) (w : Ways) where
  -- what does as the whole loop does
  abbrev Round : Option ℕ → (State → Outcome) → Type 0
  Round begin go = GoesOn k low low [] w scope begin go

  -- a loop, by the number of its rounds
  rounds_go : (turns : ℕ) (round : (State → Outcome) → State → Outcome) (begin : Option ℕ) → There k begin → ((again : State → Outcome) → Round begin again → Round begin (round again)) → Round begin (rounds turns round)
  rounds_go zero round begin there goes = λ c es place l u s comes sound fits h. halts_there k c es begin place l u s there comes fits
  rounds_go (suc turns) round begin there goes = goes (rounds turns round) (rounds_go turns round begin there goes)

  pub loop_goes : (round : (State → Outcome) → State → Outcome) (begin : Option ℕ) → There k begin → ((again : State → Outcome) → Round begin again → Round begin (round again)) → Round begin (loop round)
  loop_goes round begin there goes c es place l u s comes sound fits h = rounds_go s.turns round begin there goes c es place l u s comes sound fits h

  -- The body of a loop, and what follows it.
  pub body_goes : (round begin : Option ℕ) (body go : State → Outcome) → GoesOn k low low [] (record { next = round; by_break = w.next; by_continue = round }) scope begin body → Round round go → Round begin (λ s. after_body (body s) go)
  body_goes round begin body go body_does go_does c es place l u s comes sound fits h =
      body_runs k c es low s.memory w round (body s) go (body_does c es place l u s comes sound fits h)
      (λ place2 l2 u2 s2 comes2 sound2 fits2 grown. (let le : low ≤ low = omega arith in go_does c es place2 l2 u2 s2 comes2 sound2 fits2 (holding_grown k scope low low s.memory s2.memory le h grown)))

  -- what follows the loop
  leaves : Round w.next Next
  leaves c es place l u s comes sound fits h = arrives_at k c es low low w.next place l u s comes sound fits

  -- `while`
  pub while_goes : (spot : Spot) (e : RvalueTree) (begin : Option ℕ) (body : State → Outcome) → Works k (place_at k spot.at) e → (b : Begins k scope spot.at (λ t i. branching (coding_in k) spot.at e t begin w.next i))
      → GoesOn k low low [] (within_loop spot.at w) scope begin body → Round (Some spot.at) (loop (while_round (here_in k) spot (test_at k.calls (here_in k) spot e) body))
  while_goes spot e begin body works b body_does =
      loop_goes (while_round (here_in k) spot (test_at k.calls (here_in k) spot e) body) (Some spot.at) (_, b.block)
      (λ again again_does. chosen_goes k law scope low w spot e works begin w.next (λ s. after_body (body s) again) Next b (body_goes (Some spot.at) begin body again body_does again_does) leaves)

  -- `do`
  pub do_goes : (spot : Spot) (e : RvalueTree) (begin : Option ℕ) (body : State → Outcome) → There k begin → Works k (place_at k spot.at) e → Begins k scope spot.at (λ t i. branching (coding_in k) spot.at e t begin w.next i)
      → GoesOn k low low [] (within_loop spot.at w) scope begin body → Round begin (loop (do_round (here_in k) spot (test_at k.calls (here_in k) spot e) body))
  do_goes spot e begin body there works b body_does =
      loop_goes (do_round (here_in k) spot (test_at k.calls (here_in k) spot e) body) begin there
      (λ again again_does.
      body_goes (Some spot.at) begin body (λ t. activations.at (here_in k) spot t (λ z. choose (test_at k.calls (here_in k) spot e z) again Next)) body_does (chosen_goes k law scope low w spot e works begin w.next again Next b again_does leaves))

  -- The body of a `for` and its step, and then its next round.
  pub step_goes : (round head : Option ℕ) (begin : Option ℕ) (body step again : State → Outcome) → GoesOn k low low [] (record { next = round; by_break = w.next; by_continue = round }) scope begin body → GoesOn k low low [] (record w { next = head }) scope round step → Round head again
      → Round begin (λ s. after_body (body s) (λ z. then_do (step z) again))
  step_goes round head begin body step again body_does step_does again_does =
      body_goes round begin body (λ z. then_do (step z) again) body_does
      (λ c es place l u s comes sound fits h.
      (let le : low ≤ low = omega arith in
      then_runs k c es low low low [] [] scope s.memory w head (step s) again le le (step_does c es place l u s comes sound fits h)
      (λ place2 l2 u2 s2 comes2 sound2 fits2 grown brings. again_does c es place2 l2 u2 s2 comes2 sound2 fits2 (holding_grown k scope low low s.memory s2.memory le h grown))))

  -- `for` with a condition, and without one
  pub for_goes : (spot : Spot) (e : RvalueTree) (round begin : Option ℕ) (body step : State → Outcome) → Works k (place_at k spot.at) e → (b : Begins k scope spot.at (λ t i. branching (coding_in k) spot.at e t begin w.next i))
      → GoesOn k low low [] (record { next = round; by_break = w.next; by_continue = round }) scope begin body → GoesOn k low low [] (record w { next = Some spot.at }) scope round step
      → Round (Some spot.at) (loop (for_round (here_in k) spot (test_at k.calls (here_in k) spot e) body step))
  for_goes spot e round begin body step works b body_does step_does =
      loop_goes (for_round (here_in k) spot (test_at k.calls (here_in k) spot e) body step) (Some spot.at) (_, b.block)
      (λ again again_does.
      chosen_goes k law scope low w spot e works begin w.next (λ s. after_body (body s) (λ z. then_do (step z) again)) Next b (step_goes round (Some spot.at) begin body step again body_does step_does again_does) leaves)

  pub endless_goes : (spot : Spot) (round begin : Option ℕ) (body step : State → Outcome) → (b : Begins k scope spot.at (λ t i. going (coding_in k) begin i))
      → GoesOn k low low [] (record { next = round; by_break = w.next; by_continue = round }) scope begin body → GoesOn k low low [] (record w { next = Some spot.at }) scope round step
      → Round (Some spot.at) (loop (for_round (here_in k) spot (λ s. Holds s) body step))
  endless_goes spot round begin body step b body_does step_does =
      loop_goes (for_round (here_in k) spot (λ s. Holds s) body step) (Some spot.at) (_, b.block)
      (λ again again_does.
      place_begins k law scope spot (going (coding_in k) begin b.inner) b.block b.here low low [] w (λ s. after_body (body s) (λ z. then_do (step z) again))
      (λ c es l u s leads sound fits h ready. step_goes round (Some spot.at) begin body step again body_does step_does again_does c es (place_at k spot.at) l u s (going_comes k c es begin b.inner (place_at k spot.at) l u leads) sound fits h))
