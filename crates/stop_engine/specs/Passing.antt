-- What a run passes by on its way to a halt.
use Rattle.std.specs.Prelude.{◌≡◌, ℕ, false, true, List, [], ◌∷◌, ◌++◌}
use Rattle.std.specs.List.{AllByRecursion}
use Rattle.image_form.specs.Form.{Form}
use Rattle.rv_machine.specs.State.{MachineState}
use Rattle.rv_machine.specs.Run.{MachineEvent, Byte, Arrival, Exit, TooDeep, Faulted}
use Rattle.stop_engine.specs.declared.halt.Halt.{Halt}
use Rattle.stop_engine.specs.declared.halt.Halt.TheVariants as halt
use Rattle.stop_engine.specs.Transcript.{Aim, is_aim}

-- a byte of output, or a stop that is none of the aim
abbrev pub IsPassed : Form → Aim → MachineEvent → Type 0
IsPassed m aim (Byte b) = Unit {0}
IsPassed m aim (Arrival s) = is_aim m aim s ≡ false
IsPassed m aim (Exit v) = ⊥
IsPassed m aim TooDeep = ⊥
IsPassed m aim (Faulted a) = ⊥

-- the bytes of output among events
abbrev pub bytes_among : List MachineEvent → List ℕ
bytes_among [] = []
bytes_among (Byte b ∷ events) = b ∷ bytes_among events
bytes_among (Arrival s ∷ events) = bytes_among events
bytes_among (Exit v ∷ events) = bytes_among events
bytes_among (TooDeep ∷ events) = bytes_among events
bytes_among (Faulted a ∷ events) = bytes_among events

-- From some events on there were the others left, when this output and stops that are none of the aim had been passed
-- by.
pub record PassesBy (m : Form) (aim : Aim) (events : List MachineEvent) (output : List ℕ) (rest : List MachineEvent)
    : Type 0 where
  pub front : List MachineEvent
  pub whole : events ≡ front ++ rest
  pub bytes : output ≡ bytes_among front
  pub passed : AllByRecursion (IsPassed m aim) front

-- a halt at a stop is one of the aim
abbrev pub IsAimed : Form → Aim → Halt → MachineState → Type 0
IsAimed m aim (halt.At place d) s = is_aim m aim s ≡ true
IsAimed m aim (halt.Exited status) s = Unit {0}
IsAimed m aim halt.Depth s = Unit {0}
IsAimed m aim (halt.Fault address) s = Unit {0}
IsAimed m aim halt.Limit s = Unit {0}
