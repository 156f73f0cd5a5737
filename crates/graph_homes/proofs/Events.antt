-- What is seen of a run has the run's events.
use Rattle.std.proofs.Common.{◌≡◌, ℕ, zero, suc, ap, refl, List, [], ◌∷◌, map, Option, Some, None}
use Rattle.graph_core.specs.Graphs.{UnitForm}
use Rattle.graph_core.specs.Runs.{Configuration, Event, Stepped, Goes, Shows, Ends, Wild, events_after, run, run_some, step, unit_run, enter}
use Rattle.graph_core.specs.Memory.{first_memory}
use Rattle.graph_homes.specs.Seen.{Seen, event_of, seen_after, seen, seen_some, seen_run}

pub after_events : (s : Stepped) (f : Configuration → List Seen) (g : Configuration → List Event) → ((c : Configuration) → map event_of (f c) ≡ g c) → map event_of (seen_after s f) ≡ events_after s g
after_events (Goes c) f g h = h c
after_events (Shows e c) f g h = ap (λ es. e ∷ es) (h c)
after_events (Ends e) f g h = refl
after_events Wild f g h = refl

pub seen_events : (u : UnitForm) (n : ℕ) (c : Configuration) → map event_of (seen u n c) ≡ run u n c
seen_events u zero c = refl
seen_events u (suc n) c = after_events (step u c) (seen u n) (run u n) (λ d. seen_events u n d)

pub seen_some_events : (u : UnitForm) (n : ℕ) (c : Option Configuration) → map event_of (seen_some u n c) ≡ run_some u n c
seen_some_events u n None = refl
seen_some_events u n (Some c) = seen_events u n c

pub seen_run_events : (u : UnitForm) (input : List ℕ) (n : ℕ) → map event_of (seen_run u input n) ≡ unit_run u input n
seen_run_events u input n = seen_some_events u n (enter u (first_memory u.statics) input u.main [] [])
