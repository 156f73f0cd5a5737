-- What can be read of the machine's memory between two instructions.
use Rattle.std.specs.Prelude.{ℕ, ◌-◌, nat_lt, Option, Some, None, List, [], drop, slice_index, if◌then◌else◌}
use Rattle.rv_machine.specs.State.{MachineState, stack_start, stack_end}
use Rattle.rv_machine.specs.Memory.{bytes_of_words}
use Rattle.rv_machine.specs.Table.{MemoryLocation, InCode, InBytes, InStack, location_of}

-- The byte at a location, and 0 where there is none.
abbrev pub byte_of_location : MachineState → Option MemoryLocation → ℕ
byte_of_location s None = 0
byte_of_location s (Some (InCode i)) = slice_index (bytes_of_words s.code) i
byte_of_location s (Some (InBytes i)) = slice_index s.bytes i
byte_of_location s (Some (InStack i)) = slice_index s.stack i

-- The byte at an address, and 0 outside the regions.
unfoldable pub byte_at : MachineState → ℕ → ℕ
byte_at s a = byte_of_location s (location_of s a)

-- The bytes of the stack from an address to the stack's end, and none where the address is not one of the stack.
unfoldable pub stack_rest : MachineState → ℕ → List ℕ
stack_rest s a =
    if nat_lt a (stack_start s.map) then []
    else if nat_lt a (stack_end s.map) then drop (a - stack_start s.map) s.stack
    else []
