-- Which instructions a word can spell.
use Rattle.std.specs.Prelude.{◌≡◌, ℕ, ◌%◌, ◌<◌, ◌≤◌, ◌⊎◌}
use Rattle.rv_code.specs.declared.instruction.ImmediateOperation.{ImmediateOperation}
use Rattle.rv_code.specs.declared.instruction.ImmediateOperation.TheVariants.{Addi, Slti, Sltiu, Xori, Ori, Andi, Slli, Srli, Srai}
use Rattle.rv_code.specs.declared.instruction.Instruction.{Instruction}
use Rattle.rv_code.specs.declared.instruction.Instruction.TheVariants.{Lui, Auipc, Jal, Jalr, Branch, Load, Store, Immediate, Register, Fence, Ecall, Ebreak}

-- One of the 32 registers.
abbrev pub IsRegister : ℕ → Type 0
IsRegister r = r < 32

-- The word of a number from -2^11 to 2^11 - 1.
abbrev pub IsSigned12 : ℕ → Type 0
IsSigned12 n = (n < 2048) ⊎ ((4294965248 ≤ n) × (n < 4294967296))

-- The word of an even number from -2^12 to 2^12 - 2.
abbrev pub IsBranchDistance : ℕ → Type 0
IsBranchDistance n = (n % 2 ≡ 0) × ((n < 4096) ⊎ ((4294963200 ≤ n) × (n < 4294967296)))

-- The word of an even number from -2^20 to 2^20 - 2.
abbrev pub IsJumpDistance : ℕ → Type 0
IsJumpDistance n = (n % 2 ≡ 0) × ((n < 1048576) ⊎ ((4293918720 ≤ n) × (n < 4294967296)))

-- What may stand as the immediate of an operation: the amount of a shift is below 32.
abbrev pub IsImmediateOf : ImmediateOperation → ℕ → Type 0
IsImmediateOf Addi n = IsSigned12 n
IsImmediateOf Slti n = IsSigned12 n
IsImmediateOf Sltiu n = IsSigned12 n
IsImmediateOf Xori n = IsSigned12 n
IsImmediateOf Ori n = IsSigned12 n
IsImmediateOf Andi n = IsSigned12 n
IsImmediateOf Slli n = n < 32
IsImmediateOf Srli n = n < 32
IsImmediateOf Srai n = n < 32

-- A word can spell the instruction: its registers exist, and its immediate, offset or distance is one that its format
-- holds.
abbrev pub IsInForm : Instruction → Type 0
IsInForm (Lui r n) = IsRegister r × (n < 1048576)
IsInForm (Auipc r n) = IsRegister r × (n < 1048576)
IsInForm (Jal r n) = IsRegister r × IsJumpDistance n
IsInForm (Jalr r a n) = IsRegister r × IsRegister a × IsSigned12 n
IsInForm (Branch op a b n) = IsRegister a × IsRegister b × IsBranchDistance n
IsInForm (Load op r a n) = IsRegister r × IsRegister a × IsSigned12 n
IsInForm (Store op b a n) = IsRegister b × IsRegister a × IsSigned12 n
IsInForm (Immediate op r a n) = IsRegister r × IsRegister a × IsImmediateOf op n
IsInForm (Register op r a b) = IsRegister r × IsRegister a × IsRegister b
IsInForm (Fence r a n) = IsRegister r × IsRegister a × IsSigned12 n
IsInForm Ecall = Unit {0}
IsInForm Ebreak = Unit {0}
