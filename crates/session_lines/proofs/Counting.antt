-- How a run is stepped to its end.
use Rattle.std.proofs.Common.{◌≡◌, ℕ, suc, ◌≤◌, refl, sym, ap, ◌∙◌, subst, arith, List, [], ◌∷◌}
use Rattle.std.specs.Prelude.{Bool, true, false, if◌then◌else◌, Option, Some, None, option_map}
use Rattle.image_form.specs.Form.{Form}
use Rattle.rv_machine.specs.State.{MachineState}
use Rattle.rv_machine.specs.Run.{MachineEvent, Byte, Arrival, Exit, TooDeep, Faulted}
use Rattle.stop_engine.specs.Halting.{halt_at, halt_of}
use Rattle.stop_engine.specs.Transcript.{AnyStop, Ending, Exits, NestsTooDeep, Faults, Limit, Position, Fresh, Standing, Over, is_aim, ran, reached}
use Rattle.stop_engine.specs.declared.halt.Halt.{Halt}
use Rattle.stop_engine.specs.declared.halt.Halt.TheVariants as halt
use Rattle.stop_engine_view.specs.Reading.{depth, place_at}
use Rattle.session_lines.specs.Summary.{IsStop}

-- how often a run arrives at a stop
abbrev pub arrivals : List MachineEvent → ℕ
arrivals [] = 0
arrivals (Byte b ∷ events) = arrivals events
arrivals (Arrival s ∷ events) = suc (arrivals events)
arrivals (Exit v ∷ events) = arrivals events
arrivals (TooDeep ∷ events) = arrivals events
arrivals (Faulted a ∷ events) = arrivals events

-- a session stands at a stop
abbrev pub Stands : Position → Type 0
Stands Fresh = ⊥
Stands (Standing s) = Unit {0}
Stands (Over e) = ⊥

fewer_at : (m : Form) (events : List MachineEvent) (t : MachineState) (b : Bool) → (Stands (reached m AnyStop events).position → suc (arrivals (reached m AnyStop events).rest) ≤ arrivals events)
    → Stands (if b then (record { output = []; position = Standing t; rest = events }) else reached m AnyStop events).position
    → suc (arrivals (if b then (record { output = []; position = Standing t; rest = events }) else reached m AnyStop events).rest) ≤ suc (arrivals events)
fewer_at m events t true h stands = omega arith
fewer_at m events t false h stands = (let k = h stands in omega (arith, k))

fewer_reached : (m : Form) (events : List MachineEvent) → Stands (reached m AnyStop events).position → suc (arrivals (reached m AnyStop events).rest) ≤ arrivals events
fewer_reached m [] stands = absurd stands
fewer_reached m (Byte b ∷ events) stands = fewer_reached m events stands
fewer_reached m (Arrival t ∷ events) stands = fewer_at m events t (is_aim m AnyStop t) (λ h. fewer_reached m events h) stands
fewer_reached m (Exit v ∷ events) stands = absurd stands
fewer_reached m (TooDeep ∷ events) stands = absurd stands
fewer_reached m (Faulted a ∷ events) stands = absurd stands

-- behind a step to a stop fewer arrivals are left
pub fewer_left : (m : Form) (p : Position) (events : List MachineEvent) → Stands (ran m AnyStop p events).position → suc (arrivals (ran m AnyStop p events).rest) ≤ arrivals events
fewer_left m Fresh events stands = fewer_reached m events stands
fewer_left m (Standing s) events stands = fewer_reached m events stands
fewer_left m (Over e) events stands = absurd stands

abbrev IsStopIf : Option Halt → Type 0
IsStopIf None = ⊥
IsStopIf (Some h) = IsStop h

-- a halt at a stop is that of a session that stands at one
pub stands_there : (m : Form) (p : Position) (h : Halt) → halt_at m p ≡ Some h → IsStop h → Stands p
stands_there m Fresh h e stop = subst IsStopIf (sym e) stop
stands_there m (Standing s) h e stop = tt
stands_there m (Over (Exits v)) h e stop = subst IsStopIf (sym e) stop
stands_there m (Over NestsTooDeep) h e stop = subst IsStopIf (sym e) stop
stands_there m (Over (Faults a)) h e stop = subst IsStopIf (sym e) stop
stands_there m (Over Limit) h e stop = subst IsStopIf (sym e) stop

-- A session is over, and this is the halt of its ending.
pub record IsOver (p : Position) (h : Halt) : Type 0 where
  pub ending : Ending
  pub over : p ≡ Over ending
  pub halt_is : h ≡ halt_of ending

abbrev HasNone : Option Halt → Type 0
HasNone None = Unit {0}
HasNone (Some h) = ⊥

abbrev or_limit : Option Halt → Halt
or_limit None = halt.Limit
or_limit (Some h) = h

no_stop_there : (s : MachineState) (o : Option ℕ) (h : Halt) → option_map (λ place. halt.At place (depth s)) o ≡ Some h → (IsStop h → ⊥) → ⊥
no_stop_there s None h e other = subst HasNone e tt
no_stop_there s (Some place) h e other = other (subst IsStopIf e tt)

-- another halt is that of one that is over
pub over_there : (m : Form) (p : Position) (h : Halt) → halt_at m p ≡ Some h → (IsStop h → ⊥) → IsOver p h
over_there m Fresh h e other = absurd (subst HasNone e tt)
over_there m (Standing s) h e other = absurd (no_stop_there s (place_at m s.pc) h e other)
over_there m (Over ending) h e other = record { ending = ending; over = refl; halt_is = ap or_limit (sym e) }

abbrev Is : Bool → Type 0
Is true = Unit {0}
Is false = ⊥

-- a test that is met does not fail
pub not_both : {b : Bool} → b ≡ true → b ≡ false → ⊥
not_both met fails = subst Is (sym met ∙ fails) tt
