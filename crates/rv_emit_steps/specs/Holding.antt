-- What the machine holds, as a proof about code sees it: registers and memory are functions.
use Rattle.std.specs.Prelude.{◌≡◌, ℕ, zero, suc, ◌+◌, ◌-◌, ◌*◌, ◌/◌, ◌%◌, ◌<◌, ◌≤◌, ◌⊎◌, ◌==◌, nat_lt, if◌then◌else◌, List, slice_index}
use Rattle.std.specs.List.{AllByRecursion}
use Rattle.rv_code.specs.declared.instruction.LoadOperation.{LoadOperation}
use Rattle.rv_code.specs.declared.instruction.LoadOperation.TheVariants.{Lb, Lh, Lw, Lbu, Lhu}
use Rattle.memory_map.specs.declared.map.Map.{Map}
use Rattle.memory_map.specs.Maps.{bytes_start, bytes_end, stack_start, stack_end}
use Rattle.rv_machine.specs.State.{MachineState, reg}
use Rattle.rv_machine.specs.Table.{signed_byte, signed_half}

-- The word of each register, the byte at each address of static memory and of the stack, the input that is left, and
-- where the regions of memory lie.
pub record Holding : Type 0 where
  pub registers : ℕ → ℕ
  pub memory : ℕ → ℕ
  pub input : List ℕ
  pub regions : Map

-- The byte at an address of static memory or of the stack, and 0 outside of both.
unfoldable pub memory_of : (regions : Map) → (bytes stack : List ℕ) → (address : ℕ) → ℕ
memory_of m bytes stack a =
    if nat_lt a (bytes_start m) then 0
    else if nat_lt a (stack_start m) then slice_index bytes (a - bytes_start m)
    else slice_index stack (a - stack_start m)

-- What a state of the machine holds.
abbrev pub held : MachineState → Holding
held s = record { registers = reg s; memory = memory_of s.map s.bytes s.stack; input = s.input; regions = s.map }

-- Register 0 holds 0, each register a word, each byte of memory and of the input a byte.
pub record AreInRange (h : Holding) : Type 0 where
  pub none : h.registers 0 ≡ 0
  pub words : (r : ℕ) → h.registers r < 4294967296
  pub bytes : (a : ℕ) → h.memory a < 256
  pub input : AllByRecursion (λ b. b < 256) h.input

-- ---- What is written

-- Registers with a value written to one of them. A write to register 0 is lost.
abbrev pub with_register : (register value : ℕ) → (ℕ → ℕ) → ℕ → ℕ
with_register zero v registers = registers
with_register (suc r) v registers = λ q. if q == suc r then v else registers q

-- The byte of a number that stands so far from its lowest one, up to three.
abbrev pub byte_of : (number distance : ℕ) → ℕ
byte_of v zero = v % 256
byte_of v (suc zero) = v / 256 % 256
byte_of v (suc (suc zero)) = v / 65536 % 256
byte_of v (suc (suc (suc k))) = v / 16777216 % 256

-- Memory with so many of the lowest bytes of a number written from an address on, the lowest first.
abbrev pub with_bytes : (size address value : ℕ) → (ℕ → ℕ) → ℕ → ℕ
with_bytes n a v memory = λ b. if nat_lt b a then memory b else if nat_lt b (a + n) then byte_of v (b - a) else memory b

-- ---- What is read

-- The halfword of the two bytes from an address on, and the word of the four.
abbrev pub half_at : (ℕ → ℕ) → (address : ℕ) → ℕ
half_at memory a = memory a + memory (a + 1) * 256

-- the word of four bytes at an address, the lowest first
abbrev pub word_at : (ℕ → ℕ) → (address : ℕ) → ℕ
word_at memory a = memory a + memory (a + 1) * 256 + memory (a + 2) * 65536 + memory (a + 3) * 16777216

-- What a load gets at an address.
abbrev pub loaded_at : LoadOperation → (ℕ → ℕ) → (address : ℕ) → ℕ
loaded_at Lb memory a = signed_byte (memory a)
loaded_at Lh memory a = signed_half (half_at memory a)
loaded_at Lw memory a = word_at memory a
loaded_at Lbu memory a = memory a
loaded_at Lhu memory a = half_at memory a

-- So many bytes of static memory or of the stack stand from an address on, which is a multiple of their number.
abbrev pub IsDataAt : (regions : Map) → (size address : ℕ) → Type 0
IsDataAt m n a =
    (a % n ≡ 0) × (((bytes_start m ≤ a) × (a + n ≤ bytes_end m)) ⊎ ((stack_start m ≤ a) × (a + n ≤ stack_end m)))
