-- The instruction that a word spells.
use Rattle.std.specs.Prelude.{ℕ, ◌==◌, Option, Some, None, option_map, if◌then◌else◌}
use Rattle.rv_code.specs.declared.instruction.ImmediateOperation.{ImmediateOperation}
use Rattle.rv_code.specs.declared.instruction.ImmediateOperation.TheVariants.{Addi, Slti, Sltiu, Xori, Ori, Andi, Slli, Srli, Srai}
use Rattle.rv_code.specs.declared.instruction.Instruction.{Instruction}
use Rattle.rv_code.specs.declared.instruction.Instruction.TheVariants.{Lui, Auipc, Jal, Jalr, Branch, Load, Store, Immediate, Register, Fence, Ecall, Ebreak}
use Rattle.rv_code.specs.Fields.{opcode, rd, funct3, rs1, rs2, funct7, upper, immediate, store_offset, branch_distance, jump_distance}
use Rattle.rv_code.specs.Operations.{branch_operation, load_operation, store_operation, immediate_operation, register_operation}

-- The immediate of an operation, from its word: the amount of a shift stands where rs2 does.
abbrev pub immediate_of : ImmediateOperation → ℕ → ℕ
immediate_of Addi w = immediate w
immediate_of Slti w = immediate w
immediate_of Sltiu w = immediate w
immediate_of Xori w = immediate w
immediate_of Ori w = immediate w
immediate_of Andi w = immediate w
immediate_of Slli w = rs2 w
immediate_of Srli w = rs2 w
immediate_of Srai w = rs2 w

-- The instruction that a word spells, or none where no row of the table of opcodes has it.
unfoldable pub decoded : ℕ → Option Instruction
decoded w =
    if opcode w == 55 then Some (Lui (rd w) (upper w))
    else if opcode w == 23 then Some (Auipc (rd w) (upper w))
    else if opcode w == 111 then Some (Jal (rd w) (jump_distance w))
    else if opcode w == 103 then (if funct3 w == 0 then Some (Jalr (rd w) (rs1 w) (immediate w)) else None)
    else if opcode w == 99
    then option_map (λ op. Branch op (rs1 w) (rs2 w) (branch_distance w)) (branch_operation (funct3 w))
    else if opcode w == 3 then option_map (λ op. Load op (rd w) (rs1 w) (immediate w)) (load_operation (funct3 w))
    else if opcode w == 35
    then option_map (λ op. Store op (rs2 w) (rs1 w) (store_offset w)) (store_operation (funct3 w))
    else if opcode w == 19
    then option_map (λ op. Immediate op (rd w) (rs1 w) (immediate_of op w))
    (immediate_operation (funct3 w) (funct7 w))
    else if opcode w == 51
    then option_map (λ op. Register op (rd w) (rs1 w) (rs2 w)) (register_operation (funct3 w) (funct7 w))
    else if opcode w == 15 then (if funct3 w == 0 then Some (Fence (rd w) (rs1 w) (immediate w)) else None)
    else if w == 115 then Some Ecall
    else if w == 1048691 then Some Ebreak
    else None
