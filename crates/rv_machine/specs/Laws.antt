-- What holds of every instruction.
use Rattle.std.specs.Prelude.{◌≡◌, length}
use Rattle.rv_machine.specs.declared.event.Event.{Event}
use Rattle.rv_machine.specs.declared.event.Event.TheVariants.{Went, Out, Exited, Depth, Fault}
use Rattle.rv_machine.specs.State.{MachineState, reg}
use Rattle.rv_machine.specs.Table.{effect}

-- The program does not go on after the event.
abbrev pub IsEnding : Event → Type 0
IsEnding Went = ⊥
IsEnding (Out b) = ⊥
IsEnding (Exited v) = Unit {0}
IsEnding Depth = Unit {0}
IsEnding (Fault a) = Unit {0}

-- After an ending the same comes of every further step.
abbrev pub EndingsRepeat : Type 0
EndingsRepeat = (s : MachineState) → IsEnding (effect s).event → effect (effect s).after ≡ effect s

-- What an instruction leaves as it was: the code, the sizes of the other lists, and register 0.
pub record Kept (s t : MachineState) : Type 0 where
  pub code : t.code ≡ s.code
  pub registers : length t.registers ≡ length s.registers
  pub bytes : length t.bytes ≡ length s.bytes
  pub stack : length t.stack ≡ length s.stack
  pub zero : reg t 0 ≡ reg s 0

-- Every instruction leaves these as they were.
abbrev pub EffectsKeep : Type 0
EffectsKeep = (s : MachineState) → Kept s (effect s).after
