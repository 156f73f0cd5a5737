-- Runs of the machine: they grow, and stop alike where the stops are the same.
use Rattle.std.proofs.Common.{◌≡◌, ℕ, zero, suc, ◌≤◌, refl, ap, ◌∙◌, arith, Bool, true, false, cond, List, [], ◌∷◌, ◌++◌}
use Rattle.std.specs.List.{AllByRecursion}
use Rattle.rv_machine.specs.declared.event.Event.{Event}
use Rattle.rv_machine.specs.declared.event.Event.TheVariants.{Went, Out, Exited, Depth, Fault}
use Rattle.rv_machine.specs.State.{MachineState}
use Rattle.rv_machine.specs.Table.{effect}
use Rattle.rv_machine.proofs.Laws.{effects_keep}
use Rattle.rv_machine.specs.Run.{MachineEvent, Byte, Arrival, Exit, TooDeep, Faulted, machine_run, is_stop, goes_on, arrival}
use Rattle.event_runs.specs.Agreement.{Begins, Grows}
use Rattle.event_runs.proofs.Growing.{begins_behind}

-- ---- A longer run begins with a shorter one

arrival_begins : (b : Bool) (x : MachineEvent) (f g : List MachineEvent) → Begins f g → Begins (cond b (x ∷ []) [] ++ f) (cond b (x ∷ []) [] ++ g)
arrival_begins true x f g a = begins_behind x f g a
arrival_begins false x f g a = a

goes_on_begins : (stops : List ℕ) (event : Event) (t : MachineState) (f g : MachineState → List MachineEvent) → ((s : MachineState) → Begins (f s) (g s)) → Begins (goes_on stops event t f) (goes_on stops event t g)
goes_on_begins stops Went t f g a = arrival_begins (is_stop stops t.pc) (Arrival t) (f t) (g t) (a t)
goes_on_begins stops (Out b) t f g a = begins_behind (Byte b) (arrival stops t ++ f t) (arrival stops t ++ g t) (arrival_begins (is_stop stops t.pc) (Arrival t) (f t) (g t) (a t))
goes_on_begins stops (Exited v) t f g a = ([], refl)
goes_on_begins stops Depth t f g a = ([], refl)
goes_on_begins stops (Fault b) t f g a = ([], refl)

run_begins : (stops : List ℕ) (k j : ℕ) (s : MachineState) → k ≤ j → Begins (machine_run stops k s) (machine_run stops j s)
run_begins stops zero j s le = (machine_run stops j s, refl)
run_begins stops (suc k) zero s le = absurd (omega (arith, le))
run_begins stops (suc k) (suc j) s le = goes_on_begins stops (effect s).event (effect s).after (machine_run stops k) (machine_run stops j) (λ t. run_begins stops k j t (omega (arith, le)))

pub run_grows : (stops : List ℕ) (s : MachineState) → Grows (λ k. machine_run stops k s)
run_grows stops s k j le = run_begins stops k j s le

-- ---- The same stops

module _ (stops others : List ℕ) (same : (a : ℕ) → is_stop stops a ≡ is_stop others a) where
  arrival_same : (s : MachineState) → arrival stops s ≡ arrival others s
  arrival_same s = ap (λ b. cond b (Arrival s ∷ []) []) (same s.pc)

  goes_on_same : (event : Event) (t : MachineState) (f g : MachineState → List MachineEvent) → ((s : MachineState) → f s ≡ g s) → goes_on stops event t f ≡ goes_on others event t g
  goes_on_same Went t f g a = ap (λ l. l ++ f t) (arrival_same t) ∙ ap (λ l. arrival others t ++ l) (a t)
  goes_on_same (Out b) t f g a = ap (λ l. Byte b ∷ (l ++ f t)) (arrival_same t) ∙ ap (λ l. Byte b ∷ (arrival others t ++ l)) (a t)
  goes_on_same (Exited v) t f g a = refl
  goes_on_same Depth t f g a = refl
  goes_on_same (Fault b) t f g a = refl

  pub run_same : (n : ℕ) (s : MachineState) → machine_run stops n s ≡ machine_run others n s
  run_same zero s = refl
  run_same (suc n) s = goes_on_same (effect s).event (effect s).after (machine_run stops n) (machine_run others n) (λ t. run_same n t)

-- ---- The code

-- the machine has this code where it arrives at a stop
abbrev pub HasCode : List ℕ → MachineEvent → Type 0
HasCode words (Byte b) = Unit {0}
HasCode words (Arrival s) = s.code ≡ words
HasCode words (Exit status) = Unit {0}
HasCode words TooDeep = Unit {0}
HasCode words (Faulted address) = Unit {0}

module _ (stops : List ℕ) (words : List ℕ) where
  arrival_has : (b : Bool) (s : MachineState) (rest : List MachineEvent) → s.code ≡ words → AllByRecursion (HasCode words) rest → AllByRecursion (HasCode words) (cond b (Arrival s ∷ []) [] ++ rest)
  arrival_has true s rest is all = (is, all)
  arrival_has false s rest is all = all

  goes_on_has : (event : Event) (t : MachineState) (f : MachineState → List MachineEvent) → t.code ≡ words → AllByRecursion (HasCode words) (f t) → AllByRecursion (HasCode words) (goes_on stops event t f)
  goes_on_has Went t f is all = arrival_has (is_stop stops t.pc) t (f t) is all
  goes_on_has (Out b) t f is all = (tt, arrival_has (is_stop stops t.pc) t (f t) is all)
  goes_on_has (Exited v) t f is all = (tt, tt)
  goes_on_has Depth t f is all = (tt, tt)
  goes_on_has (Fault b) t f is all = (tt, tt)

  -- no run writes the code
  pub run_has : (n : ℕ) (s : MachineState) → s.code ≡ words → AllByRecursion (HasCode words) (machine_run stops n s)
  run_has zero s is = tt
  run_has (suc n) s is =
      let kept = (effects_keep s).code ∙ is in
      goes_on_has (effect s).event (effect s).after (machine_run stops n) kept (run_has n (effect s).after kept)
