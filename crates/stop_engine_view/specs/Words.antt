-- Words and smaller numbers that are read of homes and of memory.
use Rattle.std.specs.Prelude.{ℕ, ◌+◌, ◌*◌}
use Rattle.image_form.specs.declared.variables.ElementType.{ElementType}
use Rattle.image_form.specs.declared.variables.ElementType.TheVariants.{U8, I8, U16, I16, U32, I32, Pointer}
use Rattle.image_form.specs.declared.variables.Storage.{Storage}
use Rattle.image_form.specs.declared.variables.Storage.TheVariants.{Static, Frame, Register, Slot}
use Rattle.rv_machine.specs.State.{MachineState, reg, word}
use Rattle.rv_machine.specs.Reading.{byte_at}
use Rattle.stop_engine_view.specs.Reading.{slot_word}

-- how many bytes an element has
abbrev pub element_size : ElementType → ℕ
element_size U8 = 1
element_size I8 = 1
element_size U16 = 2
element_size I16 = 2
element_size U32 = 4
element_size I32 = 4
element_size Pointer = 4

-- the number of two bytes of memory, the lower one first
abbrev pub memory_half : MachineState → ℕ → ℕ
memory_half s a = byte_at s a + byte_at s (word (a + 1)) * 256

-- the number of four bytes of memory
unfoldable pub memory_word : MachineState → ℕ → ℕ
memory_word s a = memory_half s a + memory_half s (word (a + 2)) * 65536

-- the number of the bytes of an element in memory
abbrev pub element_word : MachineState → ElementType → ℕ → ℕ
element_word s U8 a = byte_at s a
element_word s I8 a = byte_at s a
element_word s U16 a = memory_half s a
element_word s I16 a = memory_half s a
element_word s U32 a = memory_word s a
element_word s I32 a = memory_word s a
element_word s Pointer a = memory_word s a

-- the word that a home holds
abbrev pub home_word : MachineState → Storage → ℕ
home_word s (Register number) = reg s number
home_word s (Slot offset) = slot_word s offset
home_word s (Frame offset) = 0
home_word s (Static address) = 0
