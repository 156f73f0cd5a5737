-- What the machine holds, and how a register is read and written.
pub use Rattle.memory_map.specs.Maps.{code_start, bytes_start, bytes_end, bytes_size, stack_start, stack_end, stack_size}
use Rattle.memory_map.specs.declared.map.Map.{Map}
use Rattle.std.specs.Prelude.{ℕ, zero, suc, ◌%◌, List, slice_index, slice_set}

-- The machine between two instructions.
pub record MachineState : Type 0 where
  -- the words of the code, of which the first stands at `code_start`
  pub code : List ℕ
  -- the address of the instruction that comes next
  pub pc : ℕ
  -- the 32 registers
  pub registers : List ℕ
  -- the 1,048,576 bytes from `bytes_start` on
  pub bytes : List ℕ
  -- the 16,777,216 bytes of the stack, from `stack_start` on
  pub stack : List ℕ
  -- the bytes of input that were not read yet
  pub input : List ℕ
  -- where its regions lie
  pub map : Map

-- The value of a register. Register 0 starts as 0 and is never written, so it reads as 0.
abbrev pub reg : MachineState → ℕ → ℕ
reg s r = slice_index s.registers r

-- The registers with a value written to one of them. A write to register 0 is lost.
abbrev pub with_reg : List ℕ → ℕ → ℕ → List ℕ
with_reg regs zero v = regs
with_reg regs (suc r) v = slice_set regs (suc r) v

-- The low 32 bits of a number.
abbrev pub word : ℕ → ℕ
word n = n % 4294967296
