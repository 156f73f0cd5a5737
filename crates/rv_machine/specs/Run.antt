-- Runs of the machine, as the events that they show.
use Rattle.std.specs.Prelude.{ℕ, zero, suc, ◌==◌, List, [], ◌∷◌, ◌++◌, Bool, ℤ, if◌then◌else◌}
use Rattle.std.specs.List.{list_any}
use Rattle.rv_machine.specs.declared.event.Event.{Event}
use Rattle.rv_machine.specs.declared.event.Event.TheVariants.{Went, Out, Exited, Depth, Fault}
use Rattle.rv_machine.specs.State.{MachineState}
use Rattle.rv_machine.specs.Table.{effect}

-- What a run shows: a byte of output, an arrival at a stop with the state there, or an ending.
pub data MachineEvent : Type 0 where
  Byte : (byte : ℕ) → MachineEvent
  Arrival : (state : MachineState) → MachineEvent
  Exit : (status : ℤ) → MachineEvent
  TooDeep : MachineEvent
  Faulted : (address : ℕ) → MachineEvent

-- Whether an address is one of the stops.
abbrev pub is_stop : List ℕ → ℕ → Bool
is_stop stops a = list_any (λ b. b == a) stops

-- The arrival at the address that comes next, if it is a stop.
abbrev pub arrival : List ℕ → MachineState → List MachineEvent
arrival stops s = if is_stop stops s.pc then Arrival s ∷ [] else []

-- What an instruction shows, and then what the rest of the run shows from the state after it. After an ending there is
-- nothing.
abbrev pub goes_on : List ℕ → Event → MachineState → (MachineState → List MachineEvent) → List MachineEvent
goes_on stops Went s rest = arrival stops s ++ rest s
goes_on stops (Out b) s rest = Byte b ∷ (arrival stops s ++ rest s)
goes_on stops (Exited v) s rest = Exit v ∷ []
goes_on stops Depth s rest = TooDeep ∷ []
goes_on stops (Fault a) s rest = Faulted a ∷ []

-- The events of at most so many instructions from a state.
abbrev pub machine_run : List ℕ → ℕ → MachineState → List MachineEvent
machine_run stops zero s = []
machine_run stops (suc n) s = goes_on stops (effect s).event (effect s).after (machine_run stops n)
