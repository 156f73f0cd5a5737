-- The fields of a code word, as the RISC-V unprivileged ISA lays them out, chapter "RV32I", "Base Instruction Formats"
-- and "Immediate Encoding Variants". The bits of w from bit i on, n of them, are w / 2^i % 2^n. A code word is below
-- 2^32, so its topmost field needs no remainder.
use Rattle.std.specs.Prelude.{ℕ, ◌+◌, ◌*◌, ◌/◌, ◌%◌, nat_lt, if◌then◌else◌}

-- Bits 0 to 6: which group the instruction belongs to.
abbrev pub opcode : ℕ → ℕ
opcode w = w % 128

-- Bits 7 to 11: the register that is written.
abbrev pub rd : ℕ → ℕ
rd w = w / 128 % 32

-- Bits 12 to 14: which instruction of the group.
abbrev pub funct3 : ℕ → ℕ
funct3 w = w / 4096 % 8

-- Bits 15 to 19: the first register that is read.
abbrev pub rs1 : ℕ → ℕ
rs1 w = w / 32768 % 32

-- Bits 20 to 24: the second register that is read, or the amount of a shift.
abbrev pub rs2 : ℕ → ℕ
rs2 w = w / 1048576 % 32

-- Bits 25 to 31: which instruction of the group, further.
abbrev pub funct7 : ℕ → ℕ
funct7 w = w / 33554432

-- A number of 12, 13 or 21 bits in two's complement, as a word of the same value: its sign bit is copied upwards.
abbrev pub signed_12 : ℕ → ℕ
signed_12 n = if nat_lt n 2048 then n else n + 4294963200

-- a number of 13 bits as a word, with its sign
abbrev pub signed_13 : ℕ → ℕ
signed_13 n = if nat_lt n 4096 then n else n + 4294959104

-- a number of 21 bits as a word, with its sign
abbrev pub signed_21 : ℕ → ℕ
signed_21 n = if nat_lt n 1048576 then n else n + 4292870144

-- The upper 20 bits of LUI and AUIPC: bits 12 to 31.
abbrev pub upper : ℕ → ℕ
upper w = w / 4096

-- The immediate of the I format: bits 20 to 31.
abbrev pub immediate : ℕ → ℕ
immediate w = signed_12 (w / 1048576)

-- The offset of the S format: its bits 5 to 11 are bits 25 to 31, and its bits 0 to 4 are bits 7 to 11.
abbrev pub store_offset : ℕ → ℕ
store_offset w = signed_12 (w / 33554432 * 32 + w / 128 % 32)

-- The distance of the B format, which is even: bit 12 is bit 31, bit 11 is bit 7, bits 5 to 10 are bits 25 to 30, and
-- bits 1 to 4 are bits 8 to 11.
abbrev pub branch_distance : ℕ → ℕ
branch_distance w = signed_13 (w / 2147483648 * 4096 + w / 128 % 2 * 2048 + w / 33554432 % 64 * 32 + w / 256 % 16 * 2)

-- The distance of the J format, which is even: bit 20 is bit 31, bits 12 to 19 are bits 12 to 19, bit 11 is bit 20, and
-- bits 1 to 10 are bits 21 to 30.
abbrev pub jump_distance : ℕ → ℕ
jump_distance w =
    signed_21 (w / 2147483648 * 1048576 + w / 4096 % 256 * 4096 + w / 1048576 % 2 * 2048 + w / 2097152 % 1024 * 2)
