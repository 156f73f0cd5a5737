-- What each instruction does: RV32IM, as the RISC-V unprivileged ISA has it, over three regions of memory, with four
-- calls of the environment.
use Rattle.std.specs.Prelude.{ℕ, ◌+◌, ◌-◌, ◌*◌, ◌/◌, ◌%◌, ◌==◌, nat_lt, ◌++◌, Bool, not, Option, Some, None, option_map, List, [], ◌∷◌, length, replicate, slice_get, int_lt, bit_and, bit_or, bit_xor, if◌then◌else◌}
use Rattle.word_base.specs.Words.{signed_number}
use Rattle.word_base.specs.Arithmetic.{added, subtracted, multiplied, multiplied_high, multiplied_high_unsigned, multiplied_high_mixed, divided, divided_unsigned, remaining, remaining_unsigned, shifted_left, shifted_right, shifted_right_signed, less, less_unsigned}
use Rattle.rv_code.specs.declared.instruction.BranchOperation.{BranchOperation}
use Rattle.rv_code.specs.declared.instruction.BranchOperation.TheVariants.{Beq, Bne, Blt, Bge, Bltu, Bgeu}
use Rattle.rv_code.specs.declared.instruction.LoadOperation.{LoadOperation}
use Rattle.rv_code.specs.declared.instruction.LoadOperation.TheVariants.{Lb, Lh, Lw, Lbu, Lhu}
use Rattle.rv_code.specs.declared.instruction.StoreOperation.{StoreOperation}
use Rattle.rv_code.specs.declared.instruction.StoreOperation.TheVariants.{Sb, Sh, Sw}
use Rattle.rv_code.specs.declared.instruction.ImmediateOperation.{ImmediateOperation}
use Rattle.rv_code.specs.declared.instruction.ImmediateOperation.TheVariants.{Addi, Slti, Sltiu, Xori, Ori, Andi, Slli, Srli, Srai}
use Rattle.rv_code.specs.declared.instruction.RegisterOperation.{RegisterOperation}
use Rattle.rv_code.specs.declared.instruction.RegisterOperation.TheVariants.{Add, Sub, Sll, Slt, Sltu, Xor, Srl, Sra, Or, And, Mul, Mulh, Mulhsu, Mulhu, Div, Divu, Rem, Remu}
use Rattle.rv_code.specs.declared.instruction.Instruction.{Instruction}
use Rattle.rv_code.specs.declared.instruction.Instruction.TheVariants.{Lui, Auipc, Jal, Jalr, Branch, Load, Store, Immediate, Register, Fence, Ecall, Ebreak}
use Rattle.rv_code.specs.Decoding.{decoded}
use Rattle.std.specs.Int.{cast_signed, w32}
use Rattle.rv_machine.specs.declared.event.Event.{Event}
use Rattle.rv_machine.specs.declared.event.Event.TheVariants.{Went, Out, Exited, Depth, Fault}
use Rattle.memory_map.specs.declared.map.Map.{Map}
use Rattle.rv_machine.specs.State.{MachineState, reg, with_reg, word, code_start, bytes_start, bytes_end, bytes_size, stack_start, stack_end, stack_size}
use Rattle.rv_machine.specs.Memory.{byte_in, half_in, word_in, with_byte, with_half, with_word, bytes_of_words}

-- What comes of an instruction: what it shows, and the state after it.
pub record Effect : Type 0 where
  pub event : Event
  pub after : MachineState

-- ---- Where a program goes on

-- It goes on at an address, with a value written to a register; to write none, register 0 is named.
abbrev pub goes : MachineState → ℕ → ℕ → ℕ → Effect
goes s to r v = record { event = Went; after = record s { pc = to; registers = with_reg s.registers r v } }

-- It ends, or stops at an instruction that cannot be carried out. The state stays as it was, so the same comes of every
-- further step.
abbrev pub stays : MachineState → Event → Effect
stays s e = record { event = e; after = s }

-- The address of the instruction after this one.
abbrev pub next_pc : MachineState → ℕ
next_pc s = word (s.pc + 4)

-- It jumps to an address, with a value written to a register, or faults where the address is no multiple of 4.
abbrev pub jumps : MachineState → ℕ → ℕ → ℕ → Effect
jumps s to r v = if to % 4 == 0 then goes s to r v else stays s (Fault s.pc)

-- ---- Arithmetic

-- What an operation computes of two registers.
unfoldable pub operation_result : RegisterOperation → ℕ → ℕ → ℕ
operation_result Add a b = added a b
operation_result Sub a b = subtracted a b
operation_result Sll a b = shifted_left a b
operation_result Slt a b = less a b
operation_result Sltu a b = less_unsigned a b
operation_result Xor a b = bit_xor a b
operation_result Srl a b = shifted_right a b
operation_result Sra a b = shifted_right_signed a b
operation_result Or a b = bit_or a b
operation_result And a b = bit_and a b
operation_result Mul a b = multiplied a b
operation_result Mulh a b = multiplied_high a b
operation_result Mulhsu a b = multiplied_high_mixed a b
operation_result Mulhu a b = multiplied_high_unsigned a b
operation_result Div a b = divided a b
operation_result Divu a b = divided_unsigned a b
operation_result Rem a b = remaining a b
operation_result Remu a b = remaining_unsigned a b

-- What an operation computes of a register and an immediate.
unfoldable pub operated_immediate : ImmediateOperation → ℕ → ℕ → ℕ
operated_immediate Addi a n = added a n
operated_immediate Slti a n = less a n
operated_immediate Sltiu a n = less_unsigned a n
operated_immediate Xori a n = bit_xor a n
operated_immediate Ori a n = bit_or a n
operated_immediate Andi a n = bit_and a n
operated_immediate Slli a n = shifted_left a n
operated_immediate Srli a n = shifted_right a n
operated_immediate Srai a n = shifted_right_signed a n

-- Whether a branch is taken.
unfoldable pub taken : BranchOperation → ℕ → ℕ → Bool
taken Beq a b = a == b
taken Bne a b = not (a == b)
taken Blt a b = int_lt (signed_number a) (signed_number b)
taken Bge a b = not (int_lt (signed_number a) (signed_number b))
taken Bltu a b = nat_lt a b
taken Bgeu a b = not (nat_lt a b)

-- ---- Memory

-- A region of memory and an offset of a byte in it.
pub data MemoryLocation : Type 0 where
  InCode : (offset : ℕ) → MemoryLocation
  InBytes : (offset : ℕ) → MemoryLocation
  InStack : (offset : ℕ) → MemoryLocation

-- The location of an address, if one of the regions has it: the code has four bytes a word, the other two have the
-- sizes that their lists have.
unfoldable pub location_of : MachineState → ℕ → Option MemoryLocation
location_of s a =
    if nat_lt a code_start then None
    else if nat_lt a (code_start + 4 * length s.code) then Some (InCode (a - code_start))
    else if nat_lt a (bytes_start s.map) then None
    else if nat_lt a (bytes_end s.map) then Some (InBytes (a - bytes_start s.map))
    else if nat_lt a (stack_start s.map) then None
    else if nat_lt a (stack_end s.map) then Some (InStack (a - stack_start s.map))
    else None

-- The location of an address that is a multiple of the size of what lies there.
abbrev pub aligned_location : MachineState → ℕ → ℕ → Option MemoryLocation
aligned_location s size a = if a % size == 0 then location_of s a else None

-- The number of bytes that a load or a store moves.
abbrev pub load_size : LoadOperation → ℕ
load_size Lb = 1
load_size Lh = 2
load_size Lw = 4
load_size Lbu = 1
load_size Lhu = 2

-- how many bytes a store writes
abbrev pub store_size : StoreOperation → ℕ
store_size Sb = 1
store_size Sh = 2
store_size Sw = 4

-- The words whose upper 24 bits, or upper 16 bits, are 1 and the others 0.
abbrev pub upper_24_bits : ℕ
upper_24_bits = 4294967040

-- the word of which the upper 16 bits are set
abbrev pub upper_16_bits : ℕ
upper_16_bits = 4294901760

-- A byte taken as a signed number, as a word: its sign is copied upwards.
abbrev pub signed_byte : ℕ → ℕ
signed_byte n = if nat_lt n 128 then n else n + upper_24_bits

-- A halfword taken so.
abbrev pub signed_half : ℕ → ℕ
signed_half n = if nat_lt n 32768 then n else n + upper_16_bits

-- What a load gets from bytes, at an offset.
unfoldable pub loaded_from : LoadOperation → List ℕ → ℕ → ℕ
loaded_from Lb xs i = signed_byte (byte_in xs i)
loaded_from Lh xs i = signed_half (half_in xs i)
loaded_from Lw xs i = word_in xs i
loaded_from Lbu xs i = byte_in xs i
loaded_from Lhu xs i = half_in xs i

-- Bytes after a store of a value at an offset.
unfoldable pub stored_in : StoreOperation → List ℕ → ℕ → ℕ → List ℕ
stored_in Sb xs i v = with_byte xs i v
stored_in Sh xs i v = with_half xs i v
stored_in Sw xs i v = with_word xs i v

-- What a load gets at a location.
abbrev pub loaded_at : MachineState → LoadOperation → MemoryLocation → ℕ
loaded_at s op (InCode i) = loaded_from op (bytes_of_words s.code) i
loaded_at s op (InBytes i) = loaded_from op s.bytes i
loaded_at s op (InStack i) = loaded_from op s.stack i

-- The state after a store at a location. The code is not written.
abbrev pub stored_at : MachineState → StoreOperation → ℕ → MemoryLocation → Option MachineState
stored_at s op v (InCode i) = None
stored_at s op v (InBytes i) = Some (record s { bytes = stored_in op s.bytes i v })
stored_at s op v (InStack i) = Some (record s { stack = stored_in op s.stack i v })

-- The state after a store at a location, if there is one.
abbrev pub stored_where : MachineState → StoreOperation → ℕ → Option MemoryLocation → Option MachineState
stored_where s op v None = None
stored_where s op v (Some p) = stored_at s op v p

-- What a load gets at an address, if it may read there.
unfoldable pub load_result : MachineState → LoadOperation → ℕ → Option ℕ
load_result s op a = option_map (loaded_at s op) (aligned_location s (load_size op) a)

-- The state after a store at an address, if it may write there; the pc is not moved.
unfoldable pub store_result : MachineState → StoreOperation → ℕ → ℕ → Option MachineState
store_result s op a v = stored_where s op v (aligned_location s (store_size op) a)

-- ---- The rows of the table

-- It writes to a register what was loaded and goes on, or faults.
abbrev pub on_load : MachineState → ℕ → Option ℕ → Effect
on_load s r None = stays s (Fault s.pc)
on_load s r (Some v) = goes s (next_pc s) r v

-- It goes on from what was stored, or faults.
abbrev pub on_store : MachineState → Option MachineState → Effect
on_store s None = stays s (Fault s.pc)
on_store s (Some t) = record { event = Went; after = record t { pc = next_pc s } }

-- The registers of a call of the environment: a0 has its argument and takes its result, a7 has its number.
abbrev pub a0 : ℕ
a0 = 10

-- the register a7, which says what an ECALL asks for
abbrev pub a7 : ℕ
a7 = 17

-- The word of -1, which says that there is no input left.
abbrev pub no_input : ℕ
no_input = 4294967295

-- Call 1: the next byte of input goes to a0, or -1 where there is none.
abbrev pub on_input : MachineState → List ℕ → Effect
on_input s [] = goes s (next_pc s) a0 no_input
on_input s (b ∷ rest) =
    record { event = Went; after = record s { pc = next_pc s; registers = with_reg s.registers a0 b; input = rest } }

-- A call of the environment, by the number in a7. 1 reads a byte; 2 puts out the low 8 bits of a0, which become a0; 3
-- says that calls nest too deep; 10 exits with a0. Another number faults.
unfoldable pub on_call : MachineState → Effect
on_call s =
    if reg s a7 == 1 then on_input s s.input
    else if reg s a7 == 2 then (record {
      event = Out (reg s a0 % 256);
      after = record s { pc = next_pc s; registers = with_reg s.registers a0 (reg s a0 % 256) };
    })
    else if reg s a7 == 3 then stays s Depth
    else if reg s a7 == 10 then stays s (Exited (cast_signed w32 (reg s a0)))
    else stays s (Fault s.pc)

-- What an instruction does. An offset or a distance is a word, so a sum with it is taken modulo 2^32.
unfoldable pub acted : MachineState → Instruction → Effect
acted s (Lui r n) = goes s (next_pc s) r (n * 4096)
acted s (Auipc r n) = goes s (next_pc s) r (word (s.pc + n * 4096))
acted s (Jal r n) = jumps s (word (s.pc + n)) r (next_pc s)
acted s (Jalr r a n) = jumps s (word (reg s a + n) / 2 * 2) r (next_pc s)
acted s (Branch op a b n) =
    if taken op (reg s a) (reg s b) then jumps s (word (s.pc + n)) 0 0 else goes s (next_pc s) 0 0
acted s (Load op r a n) = on_load s r (load_result s op (word (reg s a + n)))
acted s (Store op b a n) = on_store s (store_result s op (word (reg s a + n)) (reg s b))
acted s (Immediate op r a n) = goes s (next_pc s) r (operated_immediate op (reg s a) n)
acted s (Register op r a b) = goes s (next_pc s) r (operation_result op (reg s a) (reg s b))
acted s (Fence r a n) = goes s (next_pc s) 0 0
acted s Ecall = on_call s
acted s Ebreak = stays s (Fault s.pc)

-- ---- One instruction

-- The word that the pc names: it is a multiple of 4 and lies in the code.
unfoldable pub fetched : MachineState → Option ℕ
fetched s =
    if s.pc % 4 == 0 then (if nat_lt s.pc code_start then None else slice_get s.code ((s.pc - code_start) / 4))
    else None

-- What a decoded word does; it faults where the word spells no instruction.
abbrev pub effect_of_instruction : MachineState → Option Instruction → Effect
effect_of_instruction s None = stays s (Fault s.pc)
effect_of_instruction s (Some i) = acted s i

-- What a fetched word does; it faults where the pc names none.
abbrev pub effect_of_word : MachineState → Option ℕ → Effect
effect_of_word s None = stays s (Fault s.pc)
effect_of_word s (Some w) = effect_of_instruction s (decoded w)

-- What the next instruction does.
unfoldable pub effect : MachineState → Effect
effect s = effect_of_word s (fetched s)

-- ---- The start

-- So many zeros: not to be computed, since there may be many.
unfoldable pub zeros : ℕ → List ℕ
zeros n = replicate n 0

-- The state in which the machine starts: the pc at the first word of the code, the registers 0, the region of bytes
-- with its initial bytes at its front, and 0 elsewhere.
unfoldable pub started : Map → List ℕ → List ℕ → List ℕ → MachineState
started m code initial input = record {
  map = m;
  code = code;
  pc = code_start;
  registers = replicate 32 0;
  bytes = initial ++ zeros (bytes_size - length initial);
  stack = zeros stack_size;
  input = input;
}
