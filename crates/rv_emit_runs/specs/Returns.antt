-- What a return is to do, and what stands behind a call.
use Rattle.std.specs.Prelude.{◌≡◌, ℕ, ◌+◌, ◌-◌, false, Option, option_map, List, [], ◌∷◌, length}
use Rattle.std.specs.Option.{option_map_or}
use Rattle.std.specs.Int.{cast_signed, w32}
use Rattle.memory_map.specs.Maps.{stub_words}
use Rattle.rv_code.specs.declared.instruction.Instruction.{Instruction}
use Rattle.rv_code.specs.declared.instruction.Instruction.TheVariants.{Immediate, Ecall}
use Rattle.rv_code.specs.declared.instruction.ImmediateOperation.TheVariants.{Addi}
use Rattle.rv_machine.specs.Run.{MachineEvent, Byte, Exit, TooDeep}
use Rattle.graph_core.specs.Runs.{Activation, Event, Put, Exited, TooDeep as DepthExceeded}
use Rattle.graph_homes.specs.declared.home.Home.{Home}
use Rattle.graph_homes.specs.Homed.{home_number}
use Rattle.rv_emit_storage.specs.Storages.{StorageForm}
use Rattle.rv_emit_words.specs.Operands.{home_written}
use Rattle.rv_emit_steps.specs.Programs.{Program, CodeAt}
use Rattle.rv_emit_runs.specs.Keeping.{IsTargetAmong, IsSaved}
use Rattle.rv_emit_runs.specs.Waiting.{FunctionCode}

-- An event of the unit is one that the machine shows: a byte, the end with a status, or a call too many.
pub data IsShownAs : Event → MachineEvent → Type 0 where
  byte : {n : ℕ} → IsShownAs (Put n) (Byte n)
  exited : {status : ℕ} → IsShownAs (Exited status) (Exit (cast_signed w32 status))
  deep : IsShownAs DepthExceeded TooDeep

-- What the caller does with a result in a0: it writes its target, if it has one.
abbrev pub answer_code : StorageForm → Option Home → List Instruction
answer_code g target = option_map_or (λ home. home_written g home 10) target []

-- The code behind the call at which an activation waits: its result is written to the target, if there is one, and then
-- goes on what else stands there for this activation.
pub record Resumes (p : Program) (codes : ℕ → FunctionCode) (goes_on : Activation → ℕ → Type 0) (a : Activation)
    (index : ℕ) : Type 0 where
  pub target : Option Home
  pub wants : a.wants ≡ option_map home_number target
  pub among : IsTargetAmong (codes a.function).slots target
  pub saved : IsSaved (codes a.function).saved target
  pub code : CodeAt p index false (answer_code (codes a.function).storage target)
  pub rest : goes_on a (index + length (answer_code (codes a.function).storage target))

-- The words behind the call of main: they end the run with its result.
abbrev pub EndsMain : Program → Type 0
EndsMain p = CodeAt p (stub_words p.map - 2) false (Immediate Addi 17 0 10 ∷ Ecall ∷ [])
