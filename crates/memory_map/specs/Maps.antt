-- Where the regions of memory lie, once for the machine, the image, the emitter and the engine.
use Rattle.std.specs.Prelude.{◌≡◌, ℕ, ◌+◌, ◌*◌, ◌%◌, ◌≤◌, ◌<◌}
use Rattle.memory_map.specs.declared.map.Map.{Map}
use Rattle.memory_map.specs.declared.map.Map.TheVariants.{One, Two}
use Rattle.memory_map.specs.declared.map.Room.{Room}
use Rattle.memory_map.specs.declared.map.Room.TheVariants.{Small, Large}

-- The map of the memory of what is compiled in a room.
abbrev pub map_of : Room → Map
map_of Small = One
map_of Large = Two

-- The address of the first code word, the same in both maps.
abbrev pub code_start : ℕ
code_start = 65536

-- How many words of code there are at most.
abbrev pub most_words : Map → ℕ
most_words One = 262144
most_words Two = 4194304

-- Static memory: the address of its first byte, how many it has, and the address after them.
abbrev pub bytes_start : Map → ℕ
bytes_start One = 4194304
bytes_start Two = 25165824

-- how many bytes there are for static objects: 1 MiB
abbrev pub bytes_size : ℕ
bytes_size = 1048576

-- the address behind the bytes of static objects
abbrev pub bytes_end : Map → ℕ
bytes_end m = bytes_start m + bytes_size

-- The same of the stack.
abbrev pub stack_start : Map → ℕ
stack_start One = 16777216
stack_start Two = 33554432

-- how many bytes the stack has: 16 MiB
abbrev pub stack_size : ℕ
stack_size = 16777216

-- the address behind the stack
abbrev pub stack_end : Map → ℕ
stack_end m = stack_start m + stack_size

-- How many words stand before all functions: two that set the stack pointer and the thread pointer, the call of `main`,
-- which is one word or two, and two that end the run.
abbrev pub stub_words : Map → ℕ
stub_words One = 5
stub_words Two = 6

-- All that proofs over a map may use, so that none looks at its numbers.
pub record MapFacts (m : Map) : Type 0 where
  pub code : code_start + 4 * most_words m ≤ bytes_start m
  pub apart : bytes_end m ≤ stack_start m
  pub whole : stack_end m < 4294967296
  pub positive : stack_end m < 2147483648
  pub low : 4096 ≤ bytes_start m
  pub pages : bytes_start m % 4096 ≡ 0
  pub frames : stack_end m % 4096 ≡ 0
  pub stub : 5 ≤ stub_words m
  pub few : most_words m ≤ 4194304
