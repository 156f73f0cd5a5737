-- The code that passes arguments, and that calls the environment.
use Rattle.std.specs.Prelude.{◌≡◌, ℕ, ◌+◌, List, [], ◌∷◌, ◌++◌}
use Rattle.rv_code.specs.declared.instruction.Instruction.{Instruction}
use Rattle.rv_code.specs.declared.instruction.Instruction.TheVariants.{Immediate, Ecall}
use Rattle.rv_code.specs.declared.instruction.ImmediateOperation.TheVariants.{Addi}
use Rattle.graph_core.specs.Graphs.{Operand}
use Rattle.rv_emit_words.specs.declared.piece.Held.{Held}
use Rattle.rv_emit_storage.specs.Storages.{StorageForm, source_of}
use Rattle.rv_emit_words.specs.Growing.{forgotten}
use Rattle.rv_emit_words.specs.Operands.{bringing}
use Rattle.rv_emit_instructions.specs.Calls.{argument_register}
use Rattle.rv_emit_steps.specs.Frames.{IsWord}
use Rattle.rv_emit_steps.specs.Holding.{Holding}
use Rattle.rv_emit_steps.specs.EmitMovesDoing.{value_of}

-- Arguments are brought into their registers in order, from one of this number on; what scratch registers hold behind
-- that.
abbrev pub passing_code : StorageForm → (number : ℕ) → List Held → List Operand → List Instruction
passing_code g n held [] = []
passing_code g n held (a ∷ more) =
    bringing g held (argument_register n) (source_of g a)
    ++ passing_code g (n + 1) (forgotten (argument_register n) held) more

abbrev pub passing_held : (number : ℕ) → List Held → List Operand → List Held
passing_held n held [] = held
passing_held n held (a ∷ more) = passing_held (n + 1) (forgotten (argument_register n) held) more

-- Each argument is in its register.
abbrev pub ArePassed : StorageForm → (before after : Holding) → (number : ℕ) → List Operand → Type 0
ArePassed g h t n [] = Unit {0}
ArePassed g h t n (a ∷ more) =
    (t.registers (argument_register n) ≡ value_of g h (source_of g a)) × ArePassed g h t (n + 1) more

-- The constants among arguments are words.
abbrev pub AreWords : List Operand → Type 0
AreWords [] = Unit {0}
AreWords (a ∷ more) = IsWord a × AreWords more

-- The environment is called, by a number in a7.
abbrev pub environment_code : (number : ℕ) → List Instruction
environment_code n = Immediate Addi 17 0 n ∷ Ecall ∷ []

-- The code of a call of the environment with its arguments, before its result is written.
abbrev pub calling_environment : StorageForm → (number : ℕ) → List Held → List Operand → List Instruction
calling_environment g n held all = passing_code g 0 held all ++ environment_code n
