-- The word that spells an instruction.
use Rattle.std.specs.Prelude.{ℕ, ◌+◌, ◌*◌, ◌/◌, ◌%◌}
use Rattle.rv_code.specs.declared.instruction.ImmediateOperation.{ImmediateOperation}
use Rattle.rv_code.specs.declared.instruction.ImmediateOperation.TheVariants.{Addi, Slti, Sltiu, Xori, Ori, Andi, Slli, Srli, Srai}
use Rattle.rv_code.specs.declared.instruction.Instruction.{Instruction}
use Rattle.rv_code.specs.declared.instruction.Instruction.TheVariants.{Lui, Auipc, Jal, Jalr, Branch, Load, Store, Immediate, Register, Fence, Ecall, Ebreak}
use Rattle.rv_code.specs.Operations.{branch_funct3, load_funct3, store_funct3, immediate_funct3, register_funct3, register_funct7}

-- The R format: funct7, rs2, rs1, funct3, rd, opcode.
abbrev pub register_word : ℕ → ℕ → ℕ → ℕ → ℕ → ℕ → ℕ
register_word g b a f r o = g * 33554432 + b * 1048576 + a * 32768 + f * 4096 + r * 128 + o

-- The I format: the low 12 bits of an immediate, rs1, funct3, rd, opcode.
abbrev pub immediate_word : ℕ → ℕ → ℕ → ℕ → ℕ → ℕ
immediate_word n a f r o = n % 4096 * 1048576 + a * 32768 + f * 4096 + r * 128 + o

-- The S format: bits 5 to 11 of an offset, rs2, rs1, funct3, bits 0 to 4 of the offset, the opcode of stores.
abbrev pub store_word : ℕ → ℕ → ℕ → ℕ → ℕ
store_word n b a f = n / 32 % 128 * 33554432 + b * 1048576 + a * 32768 + f * 4096 + n % 32 * 128 + 35

-- The B format: bit 12 and bits 5 to 10 of a distance, rs2, rs1, funct3, bits 1 to 4 and bit 11 of the distance, the
-- opcode of branches.
abbrev pub branch_word : ℕ → ℕ → ℕ → ℕ → ℕ
branch_word n b a f =
    n / 4096 % 2 * 2147483648 + n / 32 % 64 * 33554432 + b * 1048576 + a * 32768 + f * 4096 + n / 2 % 16 * 256
    + n / 2048 % 2 * 128 + 99

-- The U format: the upper 20 bits, rd, opcode.
abbrev pub upper_word : ℕ → ℕ → ℕ → ℕ
upper_word n r o = n * 4096 + r * 128 + o

-- The J format: bit 20, bits 1 to 10, bit 11 and bits 12 to 19 of a distance, rd, the opcode of JAL.
abbrev pub jump_word : ℕ → ℕ → ℕ
jump_word n r =
    n / 1048576 % 2 * 2147483648 + n / 2 % 1024 * 2097152 + n / 2048 % 2 * 1048576 + n / 4096 % 256 * 4096 + r * 128
    + 111

-- The word of an operation on a register and an immediate: a shift has a funct7 and an amount in place of the
-- immediate.
abbrev pub immediate_operation_word : ImmediateOperation → ℕ → ℕ → ℕ → ℕ
immediate_operation_word Addi r a n = immediate_word n a (immediate_funct3 Addi) r 19
immediate_operation_word Slti r a n = immediate_word n a (immediate_funct3 Slti) r 19
immediate_operation_word Sltiu r a n = immediate_word n a (immediate_funct3 Sltiu) r 19
immediate_operation_word Xori r a n = immediate_word n a (immediate_funct3 Xori) r 19
immediate_operation_word Ori r a n = immediate_word n a (immediate_funct3 Ori) r 19
immediate_operation_word Andi r a n = immediate_word n a (immediate_funct3 Andi) r 19
immediate_operation_word Slli r a n = register_word 0 n a (immediate_funct3 Slli) r 19
immediate_operation_word Srli r a n = register_word 0 n a (immediate_funct3 Srli) r 19
immediate_operation_word Srai r a n = register_word 32 n a (immediate_funct3 Srai) r 19

-- The word that spells an instruction which a word can spell.
unfoldable pub encoded : Instruction → ℕ
encoded (Lui r n) = upper_word n r 55
encoded (Auipc r n) = upper_word n r 23
encoded (Jal r n) = jump_word n r
encoded (Jalr r a n) = immediate_word n a 0 r 103
encoded (Branch op a b n) = branch_word n b a (branch_funct3 op)
encoded (Load op r a n) = immediate_word n a (load_funct3 op) r 3
encoded (Store op b a n) = store_word n b a (store_funct3 op)
encoded (Immediate op r a n) = immediate_operation_word op r a n
encoded (Register op r a b) = register_word (register_funct7 op) b a (register_funct3 op) r 51
encoded (Fence r a n) = immediate_word n a 0 r 15
encoded Ecall = 115
encoded Ebreak = 1048691
