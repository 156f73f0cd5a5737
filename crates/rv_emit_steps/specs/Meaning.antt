-- What words and memory mean to a unit: where its objects lie, and what they hold.
use Rattle.std.specs.Prelude.{◌≡◌, ◌≢◌, ℕ, ◌+◌, ◌*◌, ◌%◌, ◌<◌, ◌≤◌, ◌⊎◌, ◌==◌, true, if◌then◌else◌, Option, Some, option_map, slice_get}
use Rattle.memory_map.specs.declared.map.Map.{Map}
use Rattle.memory_map.specs.Maps.{bytes_start, bytes_end, stack_start, stack_end}
use Rattle.graph_core.specs.declared.value.Value.{Value}
use Rattle.graph_core.specs.declared.value.Value.TheVariants.{Number, Pointer, Odd}
use Rattle.graph_core.specs.Values.{size_of}
use Rattle.graph_core.specs.Memory.{Memory, Object, bytes_of}
use Rattle.rv_emit_steps.specs.Holding.{half_at, word_at}

-- How many bytes the object with this number has, if there is one.
abbrev pub size_at : Memory → (object : ℕ) → Option ℕ
size_at memory n = option_map bytes_of (slice_get memory n)

-- A word is that of a value, where objects have addresses: a pointer's is an address in its object or directly behind
-- it, also where the object has ended. Nothing is said of what is not known.
abbrev pub Means : (addresses : ℕ → ℕ) → Memory → Value → (word : ℕ) → Type 0
Means addresses memory (Number n) w = w ≡ n
Means addresses memory (Pointer object size offset) w =
    (size_at memory object ≡ Some size) × (offset ≤ size) × (w ≡ addresses object + offset)
Means addresses memory Odd w = Unit {0}

-- ---- Objects

-- The number that so many bytes spell from an address on: one, two or four of them, as elements have.
abbrev pub bits_at : (ℕ → ℕ) → (size address : ℕ) → ℕ
bits_at m size a = if size == 1 then m a else if size == 2 then half_at m a else word_at m a

-- What so many bytes keep of a word.
abbrev pub low_bits : (size word : ℕ) → ℕ
low_bits size w = if size == 1 then w % 256 else if size == 2 then w % 65536 else w

-- The bits of so many bytes hold a value: they are those that a word leaves there, or an address.
abbrev pub HoldsBits : (addresses : ℕ → ℕ) → Memory → (size : ℕ) → Value → (bits : ℕ) → Type 0
HoldsBits addresses memory size (Number n) bits = bits ≡ low_bits size n
HoldsBits addresses memory size (Pointer object of offset) bits = Means addresses memory (Pointer object of offset) bits
HoldsBits addresses memory size Odd bits = Unit {0}

-- Each value of each live object stands in memory.
abbrev pub HoldsObjects : (addresses : ℕ → ℕ) → Memory → (ℕ → ℕ) → Type 0
HoldsObjects addresses memory m =
    (n : ℕ) (o : Object) → slice_get memory n ≡ Some o → o.live ≡ true
    → (i : ℕ) (v : Value) → slice_get o.values i ≡ Some v
    → HoldsBits addresses memory (size_of o.element) v
    (bits_at m (size_of o.element) (addresses n + i * size_of o.element))

-- So many bytes lie in static memory or in the stack, and a word behind them does too.
abbrev pub IsInMemory : (regions : Map) → (address bytes : ℕ) → Type 0
IsInMemory m a n = ((bytes_start m ≤ a) × (a + n + 4 ≤ bytes_end m)) ⊎ ((stack_start m ≤ a) × (a + n + 4 ≤ stack_end m))

-- Each object lies in static memory or in the stack, at a multiple of 4. No two that live touch one another.
pub record AreLaid (regions : Map) (addresses : ℕ → ℕ) (memory : Memory) : Type 0 where
  pub aligned : (n : ℕ) (o : Object) → slice_get memory n ≡ Some o → addresses n % 4 ≡ 0
  pub lie : (n : ℕ) (o : Object) → slice_get memory n ≡ Some o → IsInMemory regions (addresses n) (bytes_of o)
  pub apart : (m n : ℕ) (o p : Object) → m ≢ n → slice_get memory m ≡ Some o → slice_get memory n ≡ Some p
      → o.live ≡ true → p.live ≡ true
      → (addresses m + bytes_of o < addresses n) ⊎ (addresses n + bytes_of p < addresses m)
