-- The words of instructions.
use Rattle.std.specs.Prelude.{ℕ, ◌%◌, ◌==◌, ◌&&◌, ◌||◌, nat_lt, nat_le, Bool, true, if◌then◌else◌}
use Rattle.rv_code.specs.declared.instruction.ImmediateOperation.{ImmediateOperation}
use Rattle.rv_code.specs.declared.instruction.ImmediateOperation.TheVariants.{Addi, Slti, Sltiu, Xori, Ori, Andi, Slli, Srli, Srai}
use Rattle.rv_code.specs.declared.instruction.Instruction.{Instruction}
use Rattle.rv_code.specs.declared.instruction.Instruction.TheVariants.{Lui, Auipc, Jal, Jalr, Branch, Load, Store, Immediate, Register, Fence, Ecall, Ebreak}
use Rattle.rv_code.specs.Encoding.{encoded}

-- Whether a word is that of a number from -2^11 to 2^11 - 1.
abbrev pub is_signed_12 : ℕ → Bool
is_signed_12 n = nat_lt n 2048 || nat_le 4294965248 n

-- Whether it is that of an even number from -2^12 to 2^12 - 2, or from -2^20 to 2^20 - 2.
abbrev pub is_branch_distance : ℕ → Bool
is_branch_distance n = n % 2 == 0 && (nat_lt n 4096 || nat_le 4294963200 n)

abbrev pub is_jump_distance : ℕ → Bool
is_jump_distance n = n % 2 == 0 && (nat_lt n 1048576 || nat_le 4293918720 n)

-- Whether it may stand as the immediate of an operation.
abbrev pub is_immediate_of : ImmediateOperation → ℕ → Bool
is_immediate_of Addi n = is_signed_12 n
is_immediate_of Slti n = is_signed_12 n
is_immediate_of Sltiu n = is_signed_12 n
is_immediate_of Xori n = is_signed_12 n
is_immediate_of Ori n = is_signed_12 n
is_immediate_of Andi n = is_signed_12 n
is_immediate_of Slli n = nat_lt n 32
is_immediate_of Srli n = nat_lt n 32
is_immediate_of Srai n = nat_lt n 32

-- Whether an instruction has registers and numbers that a word can spell.
unfoldable pub is_in_form : Instruction → Bool
is_in_form (Lui r n) = nat_lt r 32 && nat_lt n 1048576
is_in_form (Auipc r n) = nat_lt r 32 && nat_lt n 1048576
is_in_form (Jal r n) = nat_lt r 32 && is_jump_distance n
is_in_form (Jalr r a n) = nat_lt r 32 && nat_lt a 32 && is_signed_12 n
is_in_form (Branch op a b n) = nat_lt a 32 && nat_lt b 32 && is_branch_distance n
is_in_form (Load op r a n) = nat_lt r 32 && nat_lt a 32 && is_signed_12 n
is_in_form (Store op b a n) = nat_lt b 32 && nat_lt a 32 && is_signed_12 n
is_in_form (Immediate op r a n) = nat_lt r 32 && nat_lt a 32 && is_immediate_of op n
is_in_form (Register op r a b) = nat_lt r 32 && nat_lt a 32 && nat_lt b 32
is_in_form (Fence r a n) = nat_lt r 32 && nat_lt a 32 && is_signed_12 n
is_in_form Ecall = true
is_in_form Ebreak = true

-- The word of an instruction. One that no word can spell, of which no code is made, becomes the word that does nothing.
abbrev pub spelled : Instruction → ℕ
spelled i = if is_in_form i then encoded i else 19
