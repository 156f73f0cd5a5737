-- Stretches of a run, one behind the other.
use Rattle.std.proofs.Common.{◌≡◌, ℕ, suc, ◌+◌, sym, ap, ◌∙◌, arith, refl, append_assoc, List, [], ◌∷◌, ◌++◌, Bool, true, false, cond}
use Rattle.std.specs.Prelude.{ℤ}
use Rattle.event_runs.specs.Following.{Shows}
use Rattle.rv_machine.specs.declared.event.Event.TheVariants.{Went, Out, Exited, Depth}
use Rattle.rv_machine.specs.State.{MachineState}
use Rattle.rv_machine.specs.Table.{Effect, effect}
use Rattle.rv_machine.specs.Run.{MachineEvent, Byte, Arrival, Exit, TooDeep, machine_run, is_stop, goes_on}
use Rattle.rv_emit_steps.specs.Points.{Point, events, Leads, Ends}

-- No instruction leads from a point to itself.
pub leads_nowhere : (stops : List ℕ) (p : Point) → Leads stops 0 p [] p
leads_nowhere stops p = record { by = λ k j e. let same : j ≡ k = omega arith in ap (events stops p) same }

-- One stretch behind the other.
pub leads_then : (stops : List ℕ) (m n : ℕ) (p : Point) (seen : List MachineEvent) (q : Point) (more : List MachineEvent) (r : Point)
    → Leads stops m p seen q → Leads stops n q more r → Leads stops (m + n) p (seen ++ more) r
leads_then stops m n p seen q more r a b = record {
  by = λ k j e. a.by (n + k) j (omega arith) ∙ ap (λ l. seen ++ l) (b.by k (n + k) refl) ∙ sym (append_assoc seen more (events stops r k));
}

-- A stretch, and the end behind it.
pub leads_to_end : (stops : List ℕ) (m n : ℕ) (p : Point) (seen : List MachineEvent) (q : Point) (more : List MachineEvent)
    → Leads stops m p seen q → Ends stops n q more → Ends stops (m + n) p (seen ++ more)
leads_to_end stops m n p seen q more a b = record {
  by = λ k j e. a.by (n + k) j (omega arith) ∙ ap (λ l. seen ++ l) (b.by k (n + k) refl);
}

-- An event that a stretch shows is one that the run shows.
abbrev pub shows_event : {A : Type 0} (R : A → MachineEvent → Type 0) (stops : List ℕ) (n : ℕ) (p : Point) (e : A) (x : MachineEvent) (q : Point)
    → R e x → Leads stops n p (x ∷ []) q → Shows R e (events stops p)
shows_event R stops n p e x q same h = record { steps = n; shown = x; rest = events stops q; same = same; is = h.by }

-- The stop at which the machine stands is shown by no instruction.
pub stop_shown : (stops : List ℕ) (s : MachineState) → is_stop stops s.pc ≡ true → Leads stops 0 (record { state = s; shown = false }) (Arrival s ∷ []) (record { state = s; shown = true })
stop_shown stops s on = record {
  by = λ k j e. let same : j ≡ k = omega arith in ap (λ b. cond b (Arrival s ∷ []) [] ++ machine_run stops j s) on ∙ ap (λ n. Arrival s ∷ machine_run stops n s) same;
}

-- ---- One instruction

-- Nothing is seen as the run goes on from a point at which a stop was shown or is none.
unseen : (stops : List ℕ) (s : MachineState) (b : Bool) (n : ℕ) → is_stop stops s.pc ≡ b → events stops (record { state = s; shown = b }) n ≡ machine_run stops n s
unseen stops s true n is = refl
unseen stops s false n is = ap (λ c. cond c (Arrival s ∷ []) [] ++ machine_run stops n s) is

-- An instruction that goes on.
pub one_goes : (stops : List ℕ) (s t : MachineState) (b : Bool) → is_stop stops s.pc ≡ b → effect s ≡ record { event = Went; after = t }
    → Leads stops 1 (record { state = s; shown = b }) [] (record { state = t; shown = false })
one_goes stops s t b is e = record {
  by = λ k j ej.
      let next : j ≡ suc k = omega arith in
      unseen stops s b j is ∙ ap (λ n. machine_run stops n s) next ∙ ap (λ (f : Effect). goes_on stops f.event f.after (machine_run stops k)) e;
}

-- One that puts out a byte and goes on.
pub one_puts : (stops : List ℕ) (s t : MachineState) (b : Bool) (byte : ℕ) → is_stop stops s.pc ≡ b → effect s ≡ record { event = Out byte; after = t }
    → Leads stops 1 (record { state = s; shown = b }) (Byte byte ∷ []) (record { state = t; shown = false })
one_puts stops s t b byte is e = record {
  by = λ k j ej.
      let next : j ≡ suc k = omega arith in
      unseen stops s b j is ∙ ap (λ n. machine_run stops n s) next ∙ ap (λ (f : Effect). goes_on stops f.event f.after (machine_run stops k)) e;
}

-- One that ends the run with a status.
pub one_exits : (stops : List ℕ) (s t : MachineState) (b : Bool) (status : ℤ) → is_stop stops s.pc ≡ b → effect s ≡ record { event = Exited status; after = t }
    → Ends stops 1 (record { state = s; shown = b }) (Exit status ∷ [])
one_exits stops s t b status is e = record {
  by = λ k j ej.
      let next : j ≡ suc k = omega arith in
      unseen stops s b j is ∙ ap (λ n. machine_run stops n s) next ∙ ap (λ (f : Effect). goes_on stops f.event f.after (machine_run stops k)) e;
}

-- One that ends it because calls nest too deep.
pub one_is_too_deep : (stops : List ℕ) (s t : MachineState) (b : Bool) → is_stop stops s.pc ≡ b → effect s ≡ record { event = Depth; after = t }
    → Ends stops 1 (record { state = s; shown = b }) (TooDeep ∷ [])
one_is_too_deep stops s t b is e = record {
  by = λ k j ej.
      let next : j ≡ suc k = omega arith in
      unseen stops s b j is ∙ ap (λ n. machine_run stops n s) next ∙ ap (λ (f : Effect). goes_on stops f.event f.after (machine_run stops k)) e;
}
