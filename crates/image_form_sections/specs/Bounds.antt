-- The addresses and numbers that the format fixes; the addresses are those of a map of memory.
use Rattle.std.specs.Prelude.{ℕ, ◌+◌, ◌*◌}
use Rattle.memory_map.specs.Maps as maps
use Rattle.memory_map.specs.declared.map.Map.{Map}

-- The address of the first code word.
unfoldable pub first_code_address : ℕ
first_code_address = maps.code_start

-- The address of the w-th code word.
abbrev pub word_address : ℕ → ℕ
word_address w = first_code_address + 4 * w

-- The address at which static memory begins.
unfoldable pub first_static_address : Map → ℕ
first_static_address m = maps.bytes_start m

-- How many bytes static memory has.
unfoldable pub static_size : ℕ
static_size = maps.bytes_size

-- The greatest number of 32 bits stands for no function.
abbrev pub no_function : ℕ
no_function = 4294967295
