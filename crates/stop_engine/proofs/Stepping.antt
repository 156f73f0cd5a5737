-- Runs to a halt, over the events that they answer.
use Rattle.std.proofs.Common.{◌≡◌, ℕ, suc, true, false, None, Some, List, [], ◌∷◌, ◌++◌, length, ◌≤◌, ap, refl, sym, ◌∙◌, inl, inr, append_assoc, subst, OnErr, Result, Ok, Err}
use Rattle.std.specs.List.{AllByRecursion}
use Rattle.std.specs.Option.{option_map_or}
use Rattle.image_form.specs.Form.{Form}
use Rattle.rv_machine.specs.State.{MachineState}
use Rattle.rv_machine.specs.Table.{Effect, effect}
use Rattle.rv_machine.specs.Run.{MachineEvent, Byte, Arrival, Exit, TooDeep, Faulted, arrival, goes_on, is_stop, machine_run}
use Rattle.rv_machine.specs.declared.event.Event.{Event}
use Rattle.rv_machine.specs.declared.event.Event.TheVariants as event
use Rattle.stop_engine.specs.EngineState.{Wants, run_state}
use Rattle.stop_engine_view.specs.Reading.{depth, place_at}
use Rattle.stop_engine_view.specs.Run.{stop_addresses}
use Rattle.stop_engine.specs.declared.course.TheConstants.{ROOM}
use Rattle.stop_engine.specs.declared.halt.Standing.{Standing}
use Rattle.stop_engine.specs.declared.halt.Standing.TheVariants.{Fresh, UnderWay, Halted}
use Rattle.stop_engine.specs.declared.halt.Halt.{Halt}
use Rattle.stop_engine.specs.declared.halt.Halt.TheVariants.{At, Exited, Depth, Fault, Limit}
use Rattle.stop_engine.specs.Halting.{byte_events, from_halt, halted_at, left_behind}
use Rattle.stop_engine.specs.Passing.{IsAimed, IsPassed, PassesBy, bytes_among}
use Rattle.stop_engine.specs.Standing.{ending_of, not_answered, position_of, unanswered}
use Rattle.stop_engine.specs.Transcript.{Aim, aims_at, is_aim, ran, reached, with_output}

-- ---- What is passed by

pub all_and_one : {A : Type 0} (P : A → Type 0) (xs : List A) (y : A) → AllByRecursion P xs → P y → AllByRecursion P (xs ++ y ∷ [])
all_and_one P [] y all last = (last, tt)
all_and_one P (x ∷ xs) y all last = (all.0, all_and_one P xs y all.1 last)

bytes-and_byte : (front : List MachineEvent) (b : ℕ) → bytes_among (front ++ Byte b ∷ []) ≡ bytes_among front ++ b ∷ []
bytes-and_byte [] b = refl
bytes-and_byte (Byte c ∷ front) b = ap (λ l. c ∷ l) (bytes-and_byte front b)
bytes-and_byte (Arrival s ∷ front) b = bytes-and_byte front b
bytes-and_byte (Exit v ∷ front) b = bytes-and_byte front b
bytes-and_byte (TooDeep ∷ front) b = bytes-and_byte front b
bytes-and_byte (Faulted a ∷ front) b = bytes-and_byte front b

bytes-and_arrival : (front : List MachineEvent) (s : MachineState) → bytes_among (front ++ Arrival s ∷ []) ≡ bytes_among front
bytes-and_arrival [] s = refl
bytes-and_arrival (Byte c ∷ front) s = ap (λ l. c ∷ l) (bytes-and_arrival front s)
bytes-and_arrival (Arrival t ∷ front) s = bytes-and_arrival front s
bytes-and_arrival (Exit v ∷ front) s = bytes-and_arrival front s
bytes-and_arrival (TooDeep ∷ front) s = bytes-and_arrival front s
bytes-and_arrival (Faulted a ∷ front) s = bytes-and_arrival front s

bytes_of_bytes : (output : List ℕ) → bytes_among (byte_events output) ≡ output
bytes_of_bytes [] = refl
bytes_of_bytes (b ∷ output) = ap (λ l. b ∷ l) (bytes_of_bytes output)

bytes_pass : (m : Form) (aim : Aim) (output : List ℕ) → AllByRecursion (IsPassed m aim) (byte_events output)
bytes_pass m aim [] = tt
bytes_pass m aim (b ∷ output) = (tt, bytes_pass m aim output)

-- a byte more is put out
pub passes-byte : (m : Form) (aim : Aim) (events : List MachineEvent) (before now : List ℕ) (b : ℕ) (rest : List MachineEvent) → now ≡ before ++ b ∷ []
    → PassesBy m aim events before (Byte b ∷ rest) → PassesBy m aim events now rest
passes-byte m aim events before now b rest pushed p = record {
  front = p.front ++ Byte b ∷ [];
  whole = p.whole ∙ sym (append_assoc p.front (Byte b ∷ []) rest);
  bytes = pushed ∙ (ap (λ l. l ++ b ∷ []) p.bytes ∙ sym (bytes-and_byte p.front b));
  passed = all_and_one (IsPassed m aim) p.front (Byte b) p.passed tt;
}

-- a stop that is none of the aim is passed by
pub passes-stop : (m : Form) (aim : Aim) (events : List MachineEvent) (output : List ℕ) (s : MachineState) (rest : List MachineEvent) → is_aim m aim s ≡ false
    → PassesBy m aim events output (Arrival s ∷ rest) → PassesBy m aim events output rest
passes-stop m aim events output s rest none p = record {
  front = p.front ++ Arrival s ∷ [];
  whole = p.whole ∙ sym (append_assoc p.front (Arrival s ∷ []) rest);
  bytes = p.bytes ∙ sym (bytes-and_arrival p.front s);
  passed = all_and_one (IsPassed m aim) p.front (Arrival s) p.passed none;
}

pub passes-there : (m : Form) (aim : Aim) (stops : List ℕ) (events : List MachineEvent) (output : List ℕ) (s : MachineState) (rest : List MachineEvent) → is_stop stops s.pc ≡ true
    → PassesBy m aim events output (arrival stops s ++ rest) → PassesBy m aim events output (Arrival s ∷ rest)
passes-there m aim stops events output s rest some p = rw some at p

-- a stop at which the run arrives is none of the aim
pub passes-arrived : (m : Form) (aim : Aim) (stops : List ℕ) (events : List MachineEvent) (output : List ℕ) (s : MachineState) (rest : List MachineEvent) (pc deep place : ℕ) → pc ≡ s.pc → deep ≡ depth s → is_stop stops pc ≡ true → place_at m pc ≡ Some place
    → aims_at aim deep place ≡ false → PassesBy m aim events output (arrival stops s ++ rest) → PassesBy m aim events output rest
passes-arrived m aim stops events output s rest pc deep place at depth_is stop here none p =
    let there : place_at m s.pc ≡ Some place = ap (place_at m) (sym at) ∙ here in
    let not_aimed : is_aim m aim s ≡ false =
    ap (λ o. option_map_or (aims_at aim (depth s)) o false) there ∙ (ap (λ d. aims_at aim d place) (sym depth_is) ∙ none) in
    passes-stop m aim events output s rest not_aimed (passes-there m aim stops events output s rest (ap (is_stop stops) (sym at) ∙ stop) p)

-- an instruction that puts out a byte
pub passes-out : (m : Form) (aim : Aim) (stops : List ℕ) (events : List MachineEvent) (before now : List ℕ) (n b : ℕ) (s t : MachineState) (e : Event) → record { event = e; after = t } ≡ effect s → e ≡ event.Out b → now ≡ before ++ b ∷ []
    → PassesBy m aim events before (machine_run stops (suc n) s) → PassesBy m aim events now (arrival stops t ++ machine_run stops n t)
passes-out m aim stops events before now n b s t e step is pushed p =
    let out : machine_run stops (suc n) s ≡ Byte b ∷ (arrival stops t ++ machine_run stops n t) =
    ap (λ (x : Effect). goes_on stops x.event x.after (machine_run stops n)) (sym step) ∙ ap (λ x. goes_on stops x t (machine_run stops n)) is in
    passes-byte m aim events before now b (arrival stops t ++ machine_run stops n t) pushed (subst (PassesBy m aim events before) out p)

-- ---- What is reached

reached-front : (m : Form) (aim : Aim) (front : List MachineEvent) (h : Halt) (s : MachineState) (rest : List MachineEvent) → AllByRecursion (IsPassed m aim) front → IsAimed m aim h s
    → reached m aim (front ++ from_halt h s rest) ≡ record { output = bytes_among front; position = halted_at h s; rest = left_behind h rest }
reached-front m aim [] (At place d) s rest passed aimed = rw aimed refl
reached-front m aim [] (Exited status) s rest passed aimed = refl
reached-front m aim [] Depth s rest passed aimed = refl
reached-front m aim [] (Fault address) s rest passed aimed = refl
reached-front m aim [] Limit s rest passed aimed = refl
reached-front m aim (Byte b ∷ front) h s rest passed aimed = ap (with_output b) (reached-front m aim front h s rest passed.1 aimed)
reached-front m aim (Arrival t ∷ front) h s rest passed aimed = rw passed.0 (reached-front m aim front h s rest passed.1 aimed)
reached-front m aim (Exit v ∷ front) h s rest passed aimed = absurd passed.0
reached-front m aim (TooDeep ∷ front) h s rest passed aimed = absurd passed.0
reached-front m aim (Faulted a ∷ front) h s rest passed aimed = absurd passed.0

reached-halt : (m : Form) (aim : Aim) (events : List MachineEvent) (output : List ℕ) (h : Halt) (s : MachineState) (rest : List MachineEvent) → PassesBy m aim events output (from_halt h s rest) → IsAimed m aim h s
    → reached m aim events ≡ record { output = output; position = halted_at h s; rest = left_behind h rest }
reached-halt m aim events output h s rest p aimed =
    ap (reached m aim) p.whole ∙ (reached-front m aim p.front h s rest p.passed aimed ∙ ap (λ o. record { output = o; position = halted_at h s; rest = left_behind h rest }) (sym p.bytes))

-- ---- From where a run stands

-- A run that is not over goes on from its unanswered output.
pub ran-from_here : (m : Form) (aim : Aim) (w : Standing) (s : MachineState) (events : List MachineEvent) → ending_of w ≡ None → ran m aim (position_of w s) events ≡ reached m aim events
ran-from_here m aim Fresh s events e = refl
ran-from_here m aim UnderWay s events e = refl
ran-from_here m aim (Halted (At place d)) s events e = refl
ran-from_here m aim (Halted (Exited status)) s events e = absurd (cc)
ran-from_here m aim (Halted Depth) s events e = absurd (cc)
ran-from_here m aim (Halted (Fault address)) s events e = absurd (cc)
ran-from_here m aim (Halted Limit) s events e = absurd (cc)

-- the output that no call has answered is passed by first
pub passes-unanswered : (m : Form) (aim : Aim) (w : Standing) (output now : List ℕ) (events : List MachineEvent) → ending_of w ≡ None → now ≡ not_answered w output
    → PassesBy m aim (unanswered w output events) now events
passes-unanswered m aim Fresh output now events none e = record { front = []; whole = refl; bytes = e; passed = tt }
passes-unanswered m aim UnderWay output now events none e = record { front = byte_events output; whole = refl; bytes = e ∙ sym (bytes_of_bytes output); passed = bytes_pass m aim output }
passes-unanswered m aim (Halted (At place d)) output now events none e = record { front = []; whole = refl; bytes = e; passed = tt }
passes-unanswered m aim (Halted (Exited status)) output now events none e = absurd (cc)
passes-unanswered m aim (Halted Depth) output now events none e = absurd (cc)
passes-unanswered m aim (Halted (Fault address)) output now events none e = absurd (cc)
passes-unanswered m aim (Halted Limit) output now events none e = absurd (cc)

-- A run to a halt, from where it stood.
pub ran-to_halt : (m : Form) (aim : Aim) (w : Standing) (s t : MachineState) (output now : List ℕ) (events rest : List MachineEvent) (h : Halt) → ending_of w ≡ None
    → PassesBy m aim (unanswered w output events) now (from_halt h t rest) → IsAimed m aim h t
    → ran m aim (position_of w s) (unanswered w output events) ≡ record { output = now; position = halted_at h t; rest = left_behind h rest }
ran-to_halt m aim w s t output now events rest h none p aimed = ran-from_here m aim w s (unanswered w output events) none ∙ reached-halt m aim (unanswered w output events) now h t rest p aimed

-- A run that wanted memory before it moved has forgotten at most the output of a call that was answered.
pub wants-before_moving : (m : Form) (aim : Aim) (limit left : ℕ) (w : Standing) (s : MachineState) (output now : List ℕ) → ending_of w ≡ None → now ≡ not_answered w output
    → Wants aim (run_state m limit left w s output) (run_state m limit left w s now)
wants-before_moving m aim limit left Fresh s output now none e =
    record { image = refl; limit = refl; rest = machine_run (stop_addresses m) left s; passed = passes-unanswered m aim Fresh output now (machine_run (stop_addresses m) left s) none e; events = rw e refl; stands = inl (record { position = refl; events = refl }) }
wants-before_moving m aim limit left UnderWay s output now none e =
    record { image = refl; limit = refl; rest = machine_run (stop_addresses m) left s; passed = passes-unanswered m aim UnderWay output now (machine_run (stop_addresses m) left s) none e; events = refl; stands = inl (record { position = refl; events = rw e refl }) }
wants-before_moving m aim limit left (Halted (At place d)) s output now none e =
    record { image = refl; limit = refl; rest = machine_run (stop_addresses m) left s; passed = passes-unanswered m aim (Halted (At place d)) output now (machine_run (stop_addresses m) left s) none e; events = rw e refl; stands = inl (record { position = refl; events = refl }) }
wants-before_moving m aim limit left (Halted (Exited status)) s output now none e = absurd (cc)
wants-before_moving m aim limit left (Halted Depth) s output now none e = absurd (cc)
wants-before_moving m aim limit left (Halted (Fault address)) s output now none e = absurd (cc)
wants-before_moving m aim limit left (Halted Limit) s output now none e = absurd (cc)

-- A run that wanted memory on its way stands behind the output that it had room for.
pub wants-on_its_way : (m : Form) (aim : Aim) (limit left more : ℕ) (w : Standing) (s t : MachineState) (output now : List ℕ)
    → PassesBy m aim (unanswered w output (machine_run (stop_addresses m) left s)) now (machine_run (stop_addresses m) more t) → ROOM ≤ length now
    → Wants aim (run_state m limit left w s output) (run_state m limit more UnderWay t now)
wants-on_its_way m aim limit left more w s t output now p full =
    record { image = refl; limit = refl; rest = machine_run (stop_addresses m) more t; passed = p; events = refl; stands = inr (refl, full) }

-- what holds anyway holds of an error
pub on_err-always : {T E : Type 0} (r : Result T E) (P : Type 0) → P → OnErr r P
on_err-always (Ok x) P h = tt
on_err-always (Err e) P h = h
