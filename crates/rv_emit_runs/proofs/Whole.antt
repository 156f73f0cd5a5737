-- The run of the code shows what is seen of the unit over homes, from its beginning on and for each number of steps.
use Rattle.std.proofs.Common.{◌≡◌, ℕ, zero, suc, ◌+◌, ◌≤◌, sym, ap, ◌∙◌, subst, arith, refl, Bool, true, false, cond, List, [], ◌∷◌, ◌++◌}
use Rattle.rv_machine.specs.declared.event.Event.{Event}
use Rattle.rv_machine.specs.declared.event.Event.TheVariants.{Went, Out, Exited, Depth, Fault}
use Rattle.rv_machine.specs.State.{MachineState}
use Rattle.rv_machine.specs.Table.{started, effect}
use Rattle.rv_machine.specs.Run.{MachineEvent, Byte, Arrival, machine_run as run, is_stop, goes_on, arrival}
use Rattle.event_runs.specs.Agreement.{Agree, Begins, Grows}
use Rattle.event_runs.specs.Following.{Comes}
use Rattle.event_runs.proofs.Following.{shows_later}
use Rattle.event_runs.proofs.Growing.{begins_behind, rest_grows, front_agrees}
use Rattle.graph_core.specs.Runs.{Configuration, Stepped, Goes, Shows as ShowsStep, Ends as EndsStep, Wild, step}
use Rattle.graph_core.specs.Validity.{IsValid}
use Rattle.graph_homes.specs.Homed.{HomedForm, HaveHomes, over_homes}
use Rattle.graph_homes.specs.Seen.{seen_after, seen, seen_some, seen_run}
use Rattle.rv_emit_tables.specs.Emitted.{EmittedForm}
use Rattle.rv_emit_steps.specs.Points.{Point, events}
use Rattle.rv_emit_runs.specs.Laid.{stop_addresses, IsCode}
use Rattle.rv_emit_runs.specs.Running.{emitted_run, ComesByAll, AgreesThroughout}
use Rattle.rv_emit_runs.specs.Standing.{SameSeen}
use Rattle.rv_emit_runs.proofs.Related.{Related, DoesStep}
use Rattle.rv_emit_runs.proofs.Rest.{program_in}
use Rattle.rv_emit_runs.proofs.EmitRunsStarting.{comes_to_first, first, first_is, no_stop}
use Rattle.rv_emit_runs.proofs.Steps.{step_done}
use Rattle.rv_emit_runs.proofs.Tracks.{Position}

-- ---- Runs

-- A run that comes to another one after so many steps comes by what that one comes by.
comes_later : {A B : Type 0} (R : A → B → Type 0) (m : ℕ) (es : List A) (run later : ℕ → List B) → ((k j : ℕ) → j ≡ m + k → run j ≡ later k) → Comes R es later → Comes R es run
comes_later R m [] run later by h = tt
comes_later R m (e ∷ es) run later by h = (shows_later R m e run later by h.0, h.1)

-- A run that comes by a list of events agrees with it, whatever its bound.
comes_agree : {A B : Type 0} (R : A → B → Type 0) (es : List A) (run : ℕ → List B) → Comes R es run → Grows run → (k : ℕ) → Agree R es (run k)
comes_agree R [] run h grows k = tt
comes_agree R (e ∷ es) run h grows k =
    let next = h.0 in
    let m : ℕ = next.steps in
    let g = grows k (m + k) (omega arith) in
    let a = next.is k (m + k) refl in
    let whole : Agree R (e ∷ es) (next.shown ∷ next.rest k) = (next.same, comes_agree R es next.rest h.1 (rest_grows R e run next grows) k) in
    front_agrees R (e ∷ es) (run k) g.0 (subst (Agree R (e ∷ es)) (sym a ∙ g.1) whole)

-- A longer run of the machine begins with a shorter one.
arrival_begins : (b : Bool) (x : MachineEvent) (f g : List MachineEvent) → Begins f g → Begins (cond b (x ∷ []) [] ++ f) (cond b (x ∷ []) [] ++ g)
arrival_begins true x f g a = begins_behind x f g a
arrival_begins false x f g a = a

goes_on_begins : (stops : List ℕ) (event : Event) (t : MachineState) (f g : MachineState → List MachineEvent) → ((s : MachineState) → Begins (f s) (g s)) → Begins (goes_on stops event t f) (goes_on stops event t g)
goes_on_begins stops Went t f g a = arrival_begins (is_stop stops t.pc) (Arrival t) (f t) (g t) (a t)
goes_on_begins stops (Out b) t f g a = begins_behind (Byte b) (arrival stops t ++ f t) (arrival stops t ++ g t) (arrival_begins (is_stop stops t.pc) (Arrival t) (f t) (g t) (a t))
goes_on_begins stops (Exited v) t f g a = ([], refl)
goes_on_begins stops Depth t f g a = ([], refl)
goes_on_begins stops (Fault b) t f g a = ([], refl)

run_begins : (stops : List ℕ) (k j : ℕ) (s : MachineState) → k ≤ j → Begins (run stops k s) (run stops j s)
run_begins stops zero j s le = (run stops j s, refl)
run_begins stops (suc k) zero s le = absurd (omega (arith, le))
run_begins stops (suc k) (suc j) s le = goes_on_begins stops (effect s).event (effect s).after (run stops k) (run stops j) (λ t. run_begins stops k j t (omega (arith, le)))

run_grows : (stops : List ℕ) (s : MachineState) → Grows (λ k. run stops k s)
run_grows stops s k j le = run_begins stops k j s le

-- ---- The induction

module _ (h : HomedForm) (valid : IsValid h.unit) (homed : HaveHomes h) (e : EmittedForm) (code : IsCode h e) where
  pub all_comes : (n : ℕ) (c : Configuration) (q : Point) → Related h e code c q → Comes (SameSeen h e code.arrangement) (seen (over_homes h) n c) (events (program_in h e code).stops q)
  all_comes zero c q r = tt
  all_comes (suc n) c q r = by_step _ _ (step (over_homes h) c) (λ d p related. all_comes n d p related) (step_done h valid homed e code c q r)
    where
      by_step : (from : Position) (most : ℕ) (z : Stepped) → ((d : Configuration) (p : Point) → Related h e code d p → Comes (SameSeen h e code.arrangement) (seen (over_homes h) n d) (events (program_in h e code).stops p)) → DoesStep h e code from most q z → Comes (SameSeen h e code.arrangement) (seen_after z (seen (over_homes h) n)) (events (program_in h e code).stops q)
      by_step from most (Goes d) later done = comes_later (SameSeen h e code.arrangement) done.count (seen (over_homes h) n d) (events (program_in h e code).stops q) (events (program_in h e code).stops done.point) done.leads.by (later d done.point done.related)
      by_step from most (ShowsStep event d) later done = (record { steps = done.count; shown = done.event; rest = events (program_in h e code).stops done.point; same = done.same; is = done.leads.by }, later d done.point done.related)
      by_step from most (EndsStep event) later done = (record { steps = done.count; shown = done.event; rest = λ k. []; same = done.same; is = done.ends.by }, tt)
      by_step from most Wild later done = tt

  -- From the beginning on.
  pub comes_by_all : ComesByAll h e code.arrangement
  comes_by_all input bytes n =
      let start = comes_to_first h valid homed e code input bytes in
      let c : Configuration = first h valid homed e code input bytes in
      let s : MachineState = started e.map e.code e.initial input in
      let R = SameSeen h e code.arrangement in
      let events_from : Comes R (seen (over_homes h) n c) (events (program_in h e code).stops (record { state = s; shown = false })) =
      comes_later R start.count (seen (over_homes h) n c) (events (program_in h e code).stops (record { state = s; shown = false })) (events (program_in h e code).stops start.point) start.leads.by (all_comes n c start.point start.related) in
      let is : seen_run (over_homes h) input n ≡ seen (over_homes h) n c = ap (seen_some (over_homes h) n) (first_is h valid homed e code input bytes) in
      subst (λ l. Comes R l (emitted_run e input)) (sym is)
      (comes_later R 0 (seen (over_homes h) n c) (emitted_run e input) (events (program_in h e code).stops (record { state = s; shown = false }))
      (λ k j same.
      let here : j ≡ k = omega (arith, same) in
      ap (λ m. run (stop_addresses e) m s) here ∙ ap (λ b. cond b (Arrival s ∷ []) [] ++ run (stop_addresses e) k s) (sym (no_stop h valid homed e code input bytes)))
      events_from)

  -- As far as both go, whatever their bounds.
  pub agrees_throughout : AgreesThroughout h e code.arrangement
  agrees_throughout input bytes n limit = comes_agree (SameSeen h e code.arrangement) (seen_run (over_homes h) input n) (emitted_run e input) (comes_by_all input bytes n) (run_grows (stop_addresses e) (started e.map e.code e.initial input)) limit
