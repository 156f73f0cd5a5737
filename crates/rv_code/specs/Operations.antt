-- Which funct3 and funct7 spell which operation, as the RISC-V unprivileged ISA lists them, chapter "RV32/64G
-- Instruction Set Listings".
use Rattle.std.specs.Prelude.{ℕ, ◌==◌, Option, Some, None, if◌then◌else◌}
use Rattle.rv_code.specs.declared.instruction.BranchOperation.{BranchOperation}
use Rattle.rv_code.specs.declared.instruction.BranchOperation.TheVariants.{Beq, Bne, Blt, Bge, Bltu, Bgeu}
use Rattle.rv_code.specs.declared.instruction.LoadOperation.{LoadOperation}
use Rattle.rv_code.specs.declared.instruction.LoadOperation.TheVariants.{Lb, Lh, Lw, Lbu, Lhu}
use Rattle.rv_code.specs.declared.instruction.StoreOperation.{StoreOperation}
use Rattle.rv_code.specs.declared.instruction.StoreOperation.TheVariants.{Sb, Sh, Sw}
use Rattle.rv_code.specs.declared.instruction.ImmediateOperation.{ImmediateOperation}
use Rattle.rv_code.specs.declared.instruction.ImmediateOperation.TheVariants.{Addi, Slti, Sltiu, Xori, Ori, Andi, Slli, Srli, Srai}
use Rattle.rv_code.specs.declared.instruction.RegisterOperation.{RegisterOperation}
use Rattle.rv_code.specs.declared.instruction.RegisterOperation.TheVariants.{Add, Sub, Sll, Slt, Sltu, Xor, Srl, Sra, Or, And, Mul, Mulh, Mulhsu, Mulhu, Div, Divu, Rem, Remu}

-- The funct3 of a branch.
abbrev pub branch_funct3 : BranchOperation → ℕ
branch_funct3 Beq = 0
branch_funct3 Bne = 1
branch_funct3 Blt = 4
branch_funct3 Bge = 5
branch_funct3 Bltu = 6
branch_funct3 Bgeu = 7

-- The branch that a funct3 spells, or none.
abbrev pub branch_operation : ℕ → Option BranchOperation
branch_operation f =
    if f == 0 then Some Beq
    else if f == 1 then Some Bne
    else if f == 4 then Some Blt
    else if f == 5 then Some Bge
    else if f == 6 then Some Bltu
    else if f == 7 then Some Bgeu
    else None

-- The funct3 of a load.
abbrev pub load_funct3 : LoadOperation → ℕ
load_funct3 Lb = 0
load_funct3 Lh = 1
load_funct3 Lw = 2
load_funct3 Lbu = 4
load_funct3 Lhu = 5

-- The load that a funct3 spells, or none.
abbrev pub load_operation : ℕ → Option LoadOperation
load_operation f =
    if f == 0 then Some Lb
    else if f == 1 then Some Lh
    else if f == 2 then Some Lw
    else if f == 4 then Some Lbu
    else if f == 5 then Some Lhu
    else None

-- The funct3 of a store.
abbrev pub store_funct3 : StoreOperation → ℕ
store_funct3 Sb = 0
store_funct3 Sh = 1
store_funct3 Sw = 2

-- The store that a funct3 spells, or none.
abbrev pub store_operation : ℕ → Option StoreOperation
store_operation f =
    if f == 0 then Some Sb
    else if f == 1 then Some Sh
    else if f == 2 then Some Sw
    else None

-- The funct3 of an operation on a register and an immediate.
abbrev pub immediate_funct3 : ImmediateOperation → ℕ
immediate_funct3 Addi = 0
immediate_funct3 Slti = 2
immediate_funct3 Sltiu = 3
immediate_funct3 Xori = 4
immediate_funct3 Ori = 6
immediate_funct3 Andi = 7
immediate_funct3 Slli = 1
immediate_funct3 Srli = 5
immediate_funct3 Srai = 5

-- The operation on a register and an immediate that a funct3 and a funct7 spell, or none.
-- Only a shift has a funct7: in the others those bits belong to the immediate.
abbrev pub immediate_operation : ℕ → ℕ → Option ImmediateOperation
immediate_operation f g =
    if f == 0 then Some Addi
    else if f == 2 then Some Slti
    else if f == 3 then Some Sltiu
    else if f == 4 then Some Xori
    else if f == 6 then Some Ori
    else if f == 7 then Some Andi
    else if f == 1 then (if g == 0 then Some Slli else None)
    else if f == 5 then (if g == 0 then Some Srli else if g == 32 then Some Srai else None)
    else None

-- The funct3 of an operation on two registers.
abbrev pub register_funct3 : RegisterOperation → ℕ
register_funct3 Add = 0
register_funct3 Sub = 0
register_funct3 Sll = 1
register_funct3 Slt = 2
register_funct3 Sltu = 3
register_funct3 Xor = 4
register_funct3 Srl = 5
register_funct3 Sra = 5
register_funct3 Or = 6
register_funct3 And = 7
register_funct3 Mul = 0
register_funct3 Mulh = 1
register_funct3 Mulhsu = 2
register_funct3 Mulhu = 3
register_funct3 Div = 4
register_funct3 Divu = 5
register_funct3 Rem = 6
register_funct3 Remu = 7

-- The funct7 of an operation on two registers.
abbrev pub register_funct7 : RegisterOperation → ℕ
register_funct7 Add = 0
register_funct7 Sub = 32
register_funct7 Sll = 0
register_funct7 Slt = 0
register_funct7 Sltu = 0
register_funct7 Xor = 0
register_funct7 Srl = 0
register_funct7 Sra = 32
register_funct7 Or = 0
register_funct7 And = 0
register_funct7 Mul = 1
register_funct7 Mulh = 1
register_funct7 Mulhsu = 1
register_funct7 Mulhu = 1
register_funct7 Div = 1
register_funct7 Divu = 1
register_funct7 Rem = 1
register_funct7 Remu = 1

-- The operation of the base that a funct3 spells beside funct7 0.
abbrev pub base_operation : ℕ → Option RegisterOperation
base_operation f =
    if f == 0 then Some Add
    else if f == 1 then Some Sll
    else if f == 2 then Some Slt
    else if f == 3 then Some Sltu
    else if f == 4 then Some Xor
    else if f == 5 then Some Srl
    else if f == 6 then Some Or
    else if f == 7 then Some And
    else None

-- The operation of the base that a funct3 spells beside funct7 32.
abbrev pub alternate_operation : ℕ → Option RegisterOperation
alternate_operation f =
    if f == 0 then Some Sub
    else if f == 5 then Some Sra
    else None

-- The multiplication or division that a funct3 spells beside funct7 1.
abbrev pub product_operation : ℕ → Option RegisterOperation
product_operation f =
    if f == 0 then Some Mul
    else if f == 1 then Some Mulh
    else if f == 2 then Some Mulhsu
    else if f == 3 then Some Mulhu
    else if f == 4 then Some Div
    else if f == 5 then Some Divu
    else if f == 6 then Some Rem
    else if f == 7 then Some Remu
    else None

-- The operation on two registers that a funct3 and a funct7 spell, or none.
abbrev pub register_operation : ℕ → ℕ → Option RegisterOperation
register_operation f g =
    if g == 0 then base_operation f
    else if g == 32 then alternate_operation f
    else if g == 1 then product_operation f
    else None
