-- Where static objects and the bytes that initialise arrays lie, and the bytes that lie there as a run begins.
use Rattle.std.specs.Prelude.{ℕ, zero, suc, ◌+◌, ◌*◌, ◌/◌, ◌%◌, ◌==◌, if◌then◌else◌, Option, Some, None, List, [], ◌∷◌, ◌++◌, length, map, take, replicate, slice_index}
use Rattle.std.specs.Option.{option_map_or}
use Rattle.std.specs.List.{flat_map}
use Rattle.graph_core.specs.declared.instruction.Element.{Element}
use Rattle.graph_core.specs.declared.instruction.Element.TheVariants.{Unsigned8, Signed8, Unsigned16, Signed16, Word}
use Rattle.graph_core.specs.declared.unit.Relocation.{Relocation}
use Rattle.graph_core.specs.Graphs.{StaticObject, UnitForm}
use Rattle.graph_core.specs.Memory.{static_bytes}
use Rattle.graph_core.specs.Validity.{taken_by}
use Rattle.memory_map.specs.Maps.{bytes_start, map_of}

-- the address at which static storage begins, by the map of the memory of what is compiled of a unit: not to be
-- computed with
unfoldable pub statics_start : UnitForm → ℕ
statics_start u = bytes_start (map_of u.room)

-- the addresses of things that take so many bytes, one behind the other
abbrev pub addresses_from : (address : ℕ) → List ℕ → List ℕ
addresses_from address [] = []
addresses_from address (bytes ∷ more) = address ∷ addresses_from (address + taken_by bytes) more

-- how many bytes each thing of static storage has: the objects, and behind them the bytes that initialise arrays
abbrev pub static_sizes : UnitForm → List ℕ
static_sizes u = map static_bytes u.statics ++ map (λ (b : List ℕ). length b) u.array_bytes

-- the addresses of the static objects and of the bytes that initialise arrays, one behind the other
abbrev pub static_addresses : UnitForm → List ℕ
static_addresses u = addresses_from (statics_start u) (static_sizes u)

-- the address of a static object
abbrev pub static_at : UnitForm → (object : ℕ) → ℕ
static_at u n = slice_index (static_addresses u) n

-- the address of bytes that initialise arrays
abbrev pub array_bytes_at : UnitForm → (bytes : ℕ) → ℕ
array_bytes_at u n = slice_index (static_addresses u) (length u.statics + n)

-- the four bytes of a word, the lowest first
abbrev pub word_bytes : ℕ → List ℕ
word_bytes w = w % 256 ∷ w / 256 % 256 ∷ w / 65536 % 256 ∷ w / 16777216 % 256 ∷ []

-- so many bytes: these, and zeros behind them
abbrev pub padded : (count : ℕ) → List ℕ → List ℕ
padded count bytes = take count (bytes ++ replicate count 0)

-- the first relocation at an offset
abbrev pub relocation_at : List Relocation → (at : ℕ) → Option Relocation
relocation_at [] at = None
relocation_at (r ∷ more) at = if r.at == at then Some r else relocation_at more at

-- the four bytes of a word of an object: an address by the first relocation there, or what its bytes say
abbrev pub word_there : UnitForm → StaticObject → (index : ℕ) → (bytes : List ℕ) → List ℕ
word_there u o index bytes =
    option_map_or (λ (r : Relocation). word_bytes (static_at u r.object + r.offset))
    (relocation_at o.relocations (4 * index)) bytes

-- the four bytes of a word of an object
abbrev pub word_of_bytes : List ℕ → (index : ℕ) → List ℕ
word_of_bytes bytes index =
    slice_index bytes (4 * index) ∷ slice_index bytes (4 * index + 1) ∷ slice_index bytes (4 * index + 2)
    ∷ slice_index bytes (4 * index + 3) ∷ []

-- so many words of an object from an index on, with addresses where it has relocations
abbrev pub words_there : UnitForm → StaticObject → (index count : ℕ) → List ℕ
words_there u o index zero = []
words_there u o index (suc count) =
    word_there u o index (word_of_bytes o.bytes index) ++ words_there u o (index + 1) count

-- An object's first bytes: only an object of words holds addresses.
abbrev pub bytes_by_element : UnitForm → StaticObject → Element → List ℕ
bytes_by_element u o Word = words_there u o 0 o.count
bytes_by_element u o Unsigned8 = padded (static_bytes o) o.bytes
bytes_by_element u o Signed8 = padded (static_bytes o) o.bytes
bytes_by_element u o Unsigned16 = padded (static_bytes o) o.bytes
bytes_by_element u o Signed16 = padded (static_bytes o) o.bytes

-- what an object takes: its bytes up to a whole word, and a word of zeros
abbrev pub object_bytes : UnitForm → StaticObject → List ℕ
object_bytes u o = padded (taken_by (static_bytes o)) (bytes_by_element u o o.element)

-- the initial bytes of a unit
abbrev pub initial_bytes : UnitForm → List ℕ
initial_bytes u =
    flat_map (object_bytes u) u.statics ++ flat_map (λ (b : List ℕ). padded (taken_by (length b)) b) u.array_bytes
